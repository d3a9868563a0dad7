pub mod CompileLaws
