pub mod CodeLaws
pub mod SchemeLaws
