pub mod BaseUrl
