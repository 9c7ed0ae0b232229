pub mod App
pub mod FormViews
pub mod Forms
pub mod Verbs
pub mod Words
