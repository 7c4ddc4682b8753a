pub mod IdleRules
pub mod RequestsStill
pub mod OthersIdle
pub mod OthersWait
pub mod OwnWork
pub mod HostsAnswered
pub mod OtherDevices
