pub mod LimitAlarmLaws
pub mod LimitAlarms
pub mod Reporter
