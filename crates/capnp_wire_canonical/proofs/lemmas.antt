pub mod Scanning
pub mod Faults
pub mod Checking
pub mod Limited
pub mod FewFollowed
pub mod Putting
pub mod NearStructs
