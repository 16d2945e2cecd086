-- scans in order; from a scan to the step
pub mod ScanLaws
pub mod StepLaws
