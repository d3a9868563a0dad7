mod DiskLemmas
pub mod SinkLemmas
