pub mod SourceFaults
