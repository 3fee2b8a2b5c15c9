mod Answers
mod Calls
mod Lines
mod Reports
mod Served
