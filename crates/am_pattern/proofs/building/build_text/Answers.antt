use Rattle.std.proofs.Common.{rules}
use Rattle.am_pattern.proofs.ReadLemmas.{parsed-source, parsed-Reads, unparsed-Refuses, unread-Refuses}
use Rattle.am_pattern.proofs.building.build_text.Goals as goal

pub returns-in-Ok-clause-parsed : goal.returns-in-Ok-clause-parsed
returns-in-Ok-clause-parsed c =
    let config = rw (c.size_limit.ensures, c.new.ensures.config) at c.in-Ok.ensures.config in
    let source = rw (c.size_limit.ensures, c.new.ensures.source) at c.in-Ok.ensures.source in
    rw source at (parsed-source c.in-Ok.regex config c.in-Ok.ensures.read)

pub returns-in-Ok-clause-regex : goal.returns-in-Ok-clause-regex
returns-in-Ok-clause-regex c =
    let built = c.in-Ok.ensures in
    record {
      regex = c.in-Ok.regex;
      source = rw (c.size_limit.ensures, c.new.ensures.source) at built.source;
      config = rw (c.size_limit.ensures, c.new.ensures.config) at built.config;
      read = built.read;
      small = rw c.size_limit.ensures at built.small;
    }

pub returns-then-eq-clause-cause : goal.returns-then-eq-clause-cause
returns-then-eq-clause-cause c =
    let refused = c.in-Err-Syntax in
    let by_grammar = rw (c.size_limit.ensures, c.new.ensures.source, c.new.ensures.config) at refused.ensures.by_grammar in
    unparsed-Refuses c.args.text.now refused.error.kind (by_grammar refused.error refused.field-0-is)
    (rw refused.field-0-is at refused.ensures.kind)

pub returns-else-eq-clause-cause : goal.returns-else-eq-clause-cause
returns-else-eq-clause-cause c =
    let refused = c.in-Err-Syntax in
    let by_grammar = rw (c.size_limit.ensures, c.new.ensures.source, c.new.ensures.config) at refused.ensures.by_grammar in
    unread-Refuses c.args.text.now refused.error.kind (by_grammar refused.error refused.field-0-is)
    (rw refused.field-0-is at refused.ensures.kind)
    (search rules)

pub returns-in-Err-CompiledTooBig-clause-cause : goal.returns-in-Err-CompiledTooBig-clause-cause
returns-in-Err-CompiledTooBig-clause-cause c =
    let refused = c.in-Err-CompiledTooBig in
    let kind = rw (c.size_limit.ensures, c.new.ensures.source, c.new.ensures.config, refused.field-0-is) at refused.ensures.kind in
    parsed-Reads c.args.text.now kind
