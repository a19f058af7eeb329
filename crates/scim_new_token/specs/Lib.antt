pub mod NewToken
