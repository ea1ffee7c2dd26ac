pub mod Cast
