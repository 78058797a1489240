-- What the functions of the readers give, as functions on lists. They follow the code, and are
-- words of private contracts alone: the definitions beside this folder do without them, and the
-- proofs tie both together, in both directions.
pub mod Hostnames
pub mod Hosts
pub mod Pairs
pub mod Params
pub mod Places
pub mod Runs
pub mod Uris
pub mod ViaFronts
pub mod ViaRoutes
pub mod Vias
