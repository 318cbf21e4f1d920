-- Gots of a State that wasn't sent, and States that came.
use Rattle.std.proofs.Common.{◌≡◌, ℕ, Bool, true, false, List, ◌==◌, if◌then◌else◌, refl, ap}
use Rattle.std.specs.List.{list_all}
use Rattle.am_transfer.specs.Peers.{Peer}
use Rattle.am_transfer.specs.Progress.{after_got, nothing_yet, on}
use Rattle.am_transfer.specs.Settling.{Settling, is_merged, named_in, now_settled, settled_by, untouched}

pub nothing_named : (from : Peer) (present place : ℕ) → on (after_got from present place) nothing_yet ≡ nothing_yet
nothing_named from present place = by_test (from.incarnation == present)
  where
    by_test : (b : Bool) → on (λ (s : Settling). if b then named_in from place s else s) nothing_yet ≡ nothing_yet
    by_test true = refl
    by_test false = refl

pub all_came : (others : List ℕ) (s : Settling) → list_all (is_merged s) others ≡ true → settled_by others s ≡ now_settled s
all_came others s all = ap (λ b. if b then now_settled s else s) all

pub some_lacking : (others : List ℕ) (s : Settling) → list_all (is_merged s) others ≡ false → settled_by others s ≡ s
some_lacking others s some = ap (λ b. if b then now_settled s else s) some
