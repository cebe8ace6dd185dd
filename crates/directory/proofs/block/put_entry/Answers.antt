use Rattle.std.proofs.Common.{ap, ◌-◌, length, ℕ}
use Rattle.directory.proofs.SlotBytes.{entry_put}
use Rattle.directory.proofs.block.put_entry.Goals as goal

pub returns : goal.returns
returns c =
    entry_put c.args.fields.now _ _ _ _ c.args.entry.now _ (ap (λ (n : ℕ). 27 - n) (ap length c.as_slice-name.ensures.bytes)) c.put_u32.ensures.fields
    (rw c.as_slice-name.ensures.bytes at c.put_u8.ensures.fields) (rw c.as_slice-name.ensures.bytes at c.put_bytes.ensures.fields) c.put_zeros.ensures.fields
