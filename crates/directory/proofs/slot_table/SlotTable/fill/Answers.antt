use Rattle.std.proofs.Common.{◌<◌, arith, length}
use Rattle.directory.proofs.Tables.{hint_fill, hint_next, room_in_index, table_fill}
use Rattle.directory.proofs.slot_table.SlotTable.fill.Goals as goal

pub unwrap-requires : goal.unwrap-requires
unwrap-requires c =
    let few = room_in_index _ _ _ _ _ c.self.invariant.0 c.self.view_is c.requires.within c.requires.empty in
    let room = c.self.invariant.2 in
    c.insert.ensures.succeeds (omega arith)

pub invariant_of-self : goal.invariant_of-self
invariant_of-self c =
    let items = rw c.unwrap.ensures at c.insert.ensures.items in
    let inside : c.args.place < length c.self.inside.slots.items = rw c.self.view_is c.requires.within in
    let capacity = c.insert.ensures.capacity in (
      table_fill _ c.self.inside.slots.items _ c.self.inside.index.items _ _ _ _ _ _ _ c.args.entry c.self.invariant.0 c.self.view_is c.requires.within c.requires.empty
          c.deref.ensures.value c.deref-2.ensures.value c.as_slice.ensures.bytes c.gap-at.ensures items (hint_next c.self.inside.slots.items _ _ c.args.entry c.self.invariant.0.hint inside c.if-place-self.true),
      c.self.invariant.1,
      omega (arith, c.self.invariant.2),
    )

pub invariant_of-self-else-place-self : goal.invariant_of-self-else-place-self
invariant_of-self-else-place-self c =
    let items = rw c.unwrap.ensures at c.insert.ensures.items in
    let inside : c.args.place < length c.self.inside.slots.items = rw c.self.view_is c.requires.within in
    let capacity = c.insert.ensures.capacity in (
      table_fill _ c.self.inside.slots.items _ c.self.inside.index.items _ _ _ _ _ _ _ c.args.entry c.self.invariant.0 c.self.view_is c.requires.within c.requires.empty
          c.deref.ensures.value c.deref-2.ensures.value c.as_slice.ensures.bytes c.gap-at.ensures items (hint_fill c.self.inside.slots.items _ _ c.args.entry c.self.invariant.0.hint inside),
      c.self.invariant.1,
      omega (arith, c.self.invariant.2),
    )
