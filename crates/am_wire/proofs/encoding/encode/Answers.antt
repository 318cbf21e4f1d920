use Rattle.std.proofs.Common.{◌≡◌, ◌++◌, length, sym, ap, ◌∙◌, arith}
use Rattle.am_wire.specs.Fields.{number_bytes}
use Rattle.am_wire.specs.Messages.{inside}
use Rattle.am_wire.proofs.Framed.{both_written, length-written, patched, too_long}
use Rattle.am_wire.proofs.encoding.encode.Goals as goal

pub returns-in_default-clause-refused : goal.returns-in_default-clause-refused
returns-in_default-clause-refused c =
    let written : c.push_message.new.out.items ≡ number_bytes 4 0 ++ inside c.args.message.now =
    both_written c.args.message.now _ _ _ c.new-bytes.ensures.items c.in_ok-push_u32.ensures c.in_ok-push_message.ensures.bytes in (
      c.in_ok-push_message.ensures.valid,
      too_long c.args.message.now c.push_message.new.out.items written (length c.as_slice.result.now) (ap length c.as_slice.ensures.value) c.in_default.ensures,
    )

pub overflow_sub-length : goal.overflow_sub-length
overflow_sub-length c =
    let written : c.push_message.new.out.items ≡ number_bytes 4 0 ++ inside c.args.message.now =
    both_written c.args.message.now _ _ _ c.new-bytes.ensures.items c.in_ok-push_u32.ensures c.in_ok-push_message.ensures.bytes in
    let long = length-written c.args.message.now c.push_message.new.out.items written in
    omega (arith, long, ap length c.as_slice.ensures.value, c.in-Ok.ensures.1)

pub write_u32-requires : goal.write_u32-requires
write_u32-requires c =
    let written : c.push_message.new.out.items ≡ number_bytes 4 0 ++ inside c.args.message.now =
    both_written c.args.message.now _ _ _ c.new-bytes.ensures.items c.in_ok-push_u32.ensures c.in_ok-push_message.ensures.bytes in
    let long = length-written c.args.message.now c.push_message.new.out.items written in
    rw c.deref_mut.ensures.value (omega (arith, long))

pub returns-clause-spells : goal.returns-clause-spells
unfolding number_bytes
returns-clause-spells c =
    let written : c.push_message.new.out.items ≡ number_bytes 4 0 ++ inside c.args.message.now =
    both_written c.args.message.now _ _ _ c.new-bytes.ensures.items c.in_ok-push_u32.ensures c.in_ok-push_message.ensures.bytes in
    let long = length-written c.args.message.now c.push_message.new.out.items written in record {
      bytes_are = patched c.args.message.now c.push_message.new.out.items written c.write_u32.new.buf c.from_vec.result
          _ _ (sym c.deref_mut.ensures.len ∙ ap length c.deref_mut.ensures.value) (omega (arith, long, ap length c.as_slice.ensures.value, c.in-Ok.ensures.1))
          (rw c.deref_mut.ensures.value at c.write_u32.ensures) c.from_vec.ensures;
      valid = c.in_ok-push_message.ensures.valid;
      short = omega (arith, long, ap length c.as_slice.ensures.value, c.in-Ok.ensures.0, c.in-Ok.ensures.1);
    }
