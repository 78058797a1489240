mod Faults
mod Gaining
mod Looking
mod CachedKinds
