use Rattle.std.proofs.Common.{◌≡◌, ◌≢◌, ℕ, Bool, true, false, List, [], ◌∷◌, ◌++◌, cond, refl, sym, arith, ◌==◌}
use Rattle.std.proofs.lemmas.Bool.Decides.{nat_tests}
use Rattle.am_http.specs.Paths.{below, silence_root}
use Rattle.am_http.proofs.paths.silence_id.Goals as goal

by_test : (b c : ℕ) (beginning text : List ℕ) → ((rest : List ℕ) → c ∷ text ≢ (b ∷ beginning) ++ rest)
    → (((rest : List ℕ) → text ≢ beginning ++ rest) → below beginning text ≡ []) → (t : Bool) → (b == c) ≡ t
    → cond t (below beginning text) [] ≡ []
by_test b c beginning text other later true e =
    let same : b ≡ c = grind (arith, nat_tests) in
    later (λ rest is. other rest cc)
by_test b c beginning text other later false e = refl

nothing_below : (beginning text : List ℕ) → ((rest : List ℕ) → text ≢ beginning ++ rest) → below beginning text ≡ []
nothing_below [] text other = absurd (other text refl)
nothing_below (b ∷ beginning) [] other = refl
nothing_below (b ∷ beginning) (c ∷ text) other =
    by_test b c beginning text other (nothing_below beginning text) (b == c) refl

pub returns-in-None : goal.returns-in-None
returns-in-None c = sym (nothing_below silence_root c.args.path.now c.in-None.ensures.cases)
