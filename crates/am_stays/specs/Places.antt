-- The three places of a tenant. A place is a role: an instance that loses its place hands it to the one that comes.
use Rattle.std.specs.Prelude.{Bool, true, false}

pub data Place : Type 0 where
  First : Place
  Second : Place
  Third : Place

abbrev pub same : Place → Place → Bool
same First First = true
same First Second = false
same First Third = false
same Second First = false
same Second Second = true
same Second Third = false
same Third First = false
same Third Second = false
same Third Third = true
