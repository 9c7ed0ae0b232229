pub mod Alarm
pub mod Later
pub mod NextAlarm
pub mod SeenAt
pub mod Switches
pub mod UsersSwitches
