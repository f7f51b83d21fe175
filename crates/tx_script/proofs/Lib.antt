mod Closing
mod Finding
mod Matched
mod Names
mod Polling
mod RunLemmas
mod Sending
