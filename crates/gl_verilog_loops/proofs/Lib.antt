mod Reaching
mod Ranking
