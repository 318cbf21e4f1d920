use Rattle.std.proofs.Common.{ap, ◌∙◌, List, ℕ}
use Rattle.uuid.specs.Parts.{with_variant, with_version}
use Rattle.uuid.specs.declared.Variant.TheVariants.{RFC4122}
use Rattle.uuid.specs.declared.Version.TheVariants.{Random}
use Rattle.rand_chacha.specs.ChaCha.{ChaCha}
use Rattle.am_words.specs.Draws.{id_from}
use Rattle.am_words.proofs.DrawLemmas.{filled}
use Rattle.am_words.proofs.words.draw.Goals as goal

pub returns-clause-id : goal.returns-clause-id
unfolding id_from
returns-clause-id c =
    c.from_bytes.ensures ∙ c.into_bytes.ensures ∙ c.into_uuid.ensures ∙ c.from_random_bytes.ensures.value
    ∙ ap (λ (filled : List ℕ × ChaCha). with_version (with_variant filled.0 RFC4122) Random) (c.fill_bytes_via_u32.ensures ∙ filled c.args.words.now)

pub returns-clause-words : goal.returns-clause-words
returns-clause-words c = ap (λ (filled : List ℕ × ChaCha). filled.1) (c.fill_bytes_via_u32.ensures ∙ filled c.args.words.now)
