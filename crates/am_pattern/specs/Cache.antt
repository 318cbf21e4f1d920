-- What clauses see of a `PatternCache`.
use Rattle.std.specs.Prelude.{ℕ, List}

pub record Cache : Type 0 where
  -- the patterns whose build was refused, each once, the earliest first
  pub refused : List (List ℕ)
  -- all texts that it holds as refused, in that order: those patterns, and texts that are none
  pub held : List (List ℕ)
  -- the patterns that it keeps built, the last asked first
  pub kept : List (List ℕ)
  -- how many it may keep
  pub capacity : ℕ
  -- how many bytes the tables of those that it keeps take
  pub size : ℕ
  -- how many questions found their pattern not kept, so that it had to be built
  pub misses : ℕ
