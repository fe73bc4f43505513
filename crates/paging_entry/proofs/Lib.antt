pub mod CodeLaws
pub mod MaskLaws
pub mod EntryLaws
