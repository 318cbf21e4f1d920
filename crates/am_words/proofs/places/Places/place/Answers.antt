use Rattle.std.proofs.Common.{ℕ, ap, ◌∙◌, unwrap_or}
use Rattle.std.specs.BTreeMap.{get}
use Rattle.std.specs.Cmp.Lexicographic.{slice_cmp}
use Rattle.std.specs.Ordering.{nat_cmp}
use Rattle.am_words.specs.Places.{place_of}
use Rattle.am_words.proofs.PlaceLemmas.{place_of-get}
use Rattle.am_words.proofs.places.Places.place.Goals as goal

pub returns : goal.returns
returns c =
    c.unwrap_or.ensures ∙ ap (λ o. unwrap_or o c.first.result) (c.copied.ensures ∙ c.get.ensures.value)
    ∙ ap (λ (first : ℕ). unwrap_or (get (slice_cmp nat_cmp) c.self.inside.used c.args.tenant.now) first) c.first.ensures
    ∙ place_of-get c.args.tenant.now c.self.inside.used
    ∙ ap (place_of c.args.tenant.now) c.self.view_is
