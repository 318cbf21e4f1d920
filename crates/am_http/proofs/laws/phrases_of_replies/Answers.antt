use Rattle.std.proofs.Common.{refl}
use Rattle.am_http.specs.Replies.{phrase_of}
use Rattle.am_http.proofs.laws.phrases_of_replies.Goals as goal

pub returns : goal.returns
unfolding phrase_of
returns c = (refl, refl, refl, refl, refl, refl, refl, refl, refl, refl, refl)
