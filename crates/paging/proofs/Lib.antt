pub mod LevelsLaws
pub mod CodeLaws
pub mod StandLaws
pub mod StagesLaws
pub mod Offsets
