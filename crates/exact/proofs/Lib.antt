mod Cases
mod GridLaws
mod GridRange
pub mod MayShareLaws
mod SegmentLaws
mod SideLaws
mod WideLaws
