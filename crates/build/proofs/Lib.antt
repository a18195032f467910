pub mod RoundEnd
pub mod AllRounds
pub mod Counting
pub mod Serving
pub mod Building
