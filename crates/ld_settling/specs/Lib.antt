pub mod Gathering
pub mod RunLinking
pub mod SettlingTold
pub mod SiteParts
pub mod SitesView
pub mod UnitLaws
pub mod UnitRuns
