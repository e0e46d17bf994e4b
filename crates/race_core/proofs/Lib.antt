mod Wins
mod Teams
mod AllTeams
mod WinLogs
