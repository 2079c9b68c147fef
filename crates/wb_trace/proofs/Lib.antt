pub mod FirstLine
mod LineKinds
