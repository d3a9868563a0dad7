pub mod Gaining
mod Onward
mod PollLaws
mod Running
mod Taking
mod TurnLaws
mod Calling
