mod NameLaws
mod Numbering
mod Meetings
mod Ranking
mod Tables
mod Sums
mod Sharing
mod Steps
