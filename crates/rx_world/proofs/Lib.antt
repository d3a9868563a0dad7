pub mod RunKeeps
