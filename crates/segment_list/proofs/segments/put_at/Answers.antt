use Rattle.std.proofs.Common.{◌∙◌, sym, ap, Some}
use Rattle.segment_list.specs.Flushes.{flushed_slot}
use Rattle.segment_list.specs.Slots.{Slotted, key_of}
use Rattle.segment_list.proofs.Flushing.{get_some, key_set_at, put_same}
use Rattle.segment_list.proofs.segments.put_at.Goals as goal

pub put_flush-requires-clause-planned : goal.put_flush-requires-clause-planned
put_flush-requires-clause-planned g c = c.requires.planned c.index_mut.result.now (get_some c.args.slots.now.items c.args.place c.index_mut.result.now c.requires.within ∙ ap (λ (s : Slotted g.row.G.Denot). Some s) (sym c.index_mut.ensures.value))

pub put_flush-requires-clause-room : goal.put_flush-requires-clause-room
put_flush-requires-clause-room g c = c.requires.room c.index_mut.result.now (get_some c.args.slots.now.items c.args.place c.index_mut.result.now c.requires.within ∙ ap (λ (s : Slotted g.row.G.Denot). Some s) (sym c.index_mut.ensures.value))

pub returns-clause-keys : goal.returns-clause-keys
returns-clause-keys g c = key_set_at c.args.slots.now.items c.args.place c.index_mut.result.now c.put_flush.new.self (ap key_of c.put_flush.ensures ∙ ap key_of c.index_mut.ensures.value)

pub returns-clause-put : goal.returns-clause-put
returns-clause-put g c = λ s there. put_same c.args.flush.from c.args.slots.now.items c.args.place c.index_mut.result.now s c.put_flush.new.self c.requires.within (c.put_flush.ensures ∙ ap (flushed_slot c.args.flush.from) c.index_mut.ensures.value) there
