mod Prefixes
mod ScheduleText
