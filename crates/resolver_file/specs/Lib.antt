pub mod ResolverLines
pub mod ResolverFiles
pub mod Views
