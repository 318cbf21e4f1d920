use Rattle.std.proofs.Common.{◌≡◌, Some, None, ap, sym, ◌∙◌}
use Rattle.std.proofs.lemmas.Bool.{false≢true}
use Rattle.std.proofs.lemmas.Slice.Eq.{bytes_eq-Decides}
use Rattle.am_words.specs.Ids.{id_in, id_text}
use Rattle.am_words.proofs.IdLemmas.{each_read, id_in-none, id_in-other, text_is_read}
use Rattle.am_words.proofs.id.read_id.Goals.{Then-is_text_of, Else-is_text_of}
use Rattle.am_words.proofs.id.read_id.Goals as goal

pub returns-in_default-clause-id : goal.returns-in_default-clause-id
returns-in_default-clause-id c = sym (id_in-none c.args.text.now (λ parses. false≢true (c.in_default.ensures.ok.1 parses)))

pub returns-in_default-clause-each : goal.returns-in_default-clause-each
returns-in_default-clause-each c =
    each_read None c.args.text.now (sym (id_in-none c.args.text.now (λ parses. false≢true (c.in_default.ensures.ok.1 parses))))

same_text : (c : Then-is_text_of) → id_text c.from_bytes-id.result ≡ c.args.text.now
same_text c = (bytes_eq-Decides (id_text c.from_bytes-id.result) c.args.text.now).0 (sym c.is_text_of.ensures ∙ c.if-is_text_of.true)

is_read : (c : Then-is_text_of) → id_in c.args.text.now ≡ Some c.from_bytes-id.result
is_read c =
    text_is_read c.from_bytes-id.result c.args.text.now (ap Some (c.from_bytes-id.ensures ∙ c.into_bytes.ensures) ∙ c.in-Ok.ensures.bytes) (same_text c)

pub returns-then-is_text_of-clause-id : goal.returns-then-is_text_of-clause-id
returns-then-is_text_of-clause-id c = sym (is_read c)

pub returns-then-is_text_of-clause-text : goal.returns-then-is_text_of-clause-text
returns-then-is_text_of-clause-text c = same_text c

pub returns-then-is_text_of-clause-each : goal.returns-then-is_text_of-clause-each
returns-then-is_text_of-clause-each c = each_read (Some c.from_bytes-id.result) c.args.text.now (sym (is_read c))

not_read : (c : Else-is_text_of) → id_in c.args.text.now ≡ None
not_read c =
    id_in-other c.from_bytes-id.result c.args.text.now (ap Some (c.from_bytes-id.ensures ∙ c.into_bytes.ensures) ∙ c.in-Ok.ensures.bytes)
    (sym c.is_text_of.ensures ∙ c.if-is_text_of.false)

pub returns-else-is_text_of-clause-id : goal.returns-else-is_text_of-clause-id
returns-else-is_text_of-clause-id c = sym (not_read c)

pub returns-else-is_text_of-clause-each : goal.returns-else-is_text_of-clause-each
returns-else-is_text_of-clause-each c = each_read None c.args.text.now (sym (not_read c))
