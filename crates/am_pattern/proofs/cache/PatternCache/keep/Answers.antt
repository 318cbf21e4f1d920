use Rattle.std.proofs.Common.{◌≡◌, false, string_bytes}
use Rattle.am_pattern.specs.Refused.{has_text}
use Rattle.am_pattern.specs.Kept.{texts_of}
use Rattle.am_pattern.proofs.KeptLemmas.{texts-put, sound-put, size-sound}
use Rattle.am_pattern.proofs.cache.PatternCache.keep.Goals as goal

pub invariant_of-self-2 : goal.invariant_of-self-2
invariant_of-self-2 c =
    let missing : has_text (texts_of string_bytes c.self.inside.built.entries) c.args.pattern.now ≡ false =
    rw (← c.self.view_is) at c.requires.missing in
    rw c.in_ok-put.ensures.entries
    (sound-put string_bytes c.args.pattern.now c.in_ok-key.key c.args.built c.self.inside.built c.in_ok-key.ensures.ok missing c.self.invariant
    (record {
      shallow = rw c.in_ok-key.ensures.ok c.requires.shallow;
      source = rw c.in_ok-key.ensures.ok c.requires.source;
      small = c.requires.small;
      regex = rw c.in_ok-key.ensures.ok c.requires.regex;
    }))

pub returns-clause-kept : goal.returns-clause-kept
returns-clause-kept c =
    let missing : has_text (texts_of string_bytes c.self.inside.built.entries) c.args.pattern.now ≡ false =
    rw (← c.self.view_is) at c.requires.missing in
    rw (c.in_ok-put.ensures.entries, ← c.self.view_is)
    (texts-put string_bytes c.args.pattern.now c.in_ok-key.key c.args.built c.self.inside.built c.in_ok-key.ensures.ok missing c.self.invariant.room)

pub returns-clause-size : goal.returns-clause-size
returns-clause-size c = size-sound string_bytes c.put.new.self.entries c.put.new.self.cap (invariant_of-self-2 c)
