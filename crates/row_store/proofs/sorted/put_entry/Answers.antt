use Rattle.row_store.proofs.Putting.{put_before_seen, put_over_seen, ok_so}
use Rattle.row_store.proofs.sorted.put_entry.Goals as goal

pub returns-then-stands_at : goal.returns-then-stands_at
returns-then-stands_at g c = put_over_seen g.K.Ord.cmp c.args.key c.args.value c.deref.result.now c.deref-2.result.now c.args.entries.now.items c.place_of-at.result c.index_mut.result.now c.stands_at.result c.deref.ensures.value c.deref-2.ensures.value c.place_of-at.ensures.below (c.stands_at.ensures.within c.if-stands_at.true) c.index_mut.ensures.value c.stands_at.ensures.stands c.if-stands_at.true

pub returns : goal.returns
returns g c = ok_so c.insert_at.result (put_before_seen g.K.Ord.cmp c.args.key c.args.value c.deref.result.now c.deref-2.result.now c.args.entries.now.items c.insert_at.new.entries.items c.place_of-at.result c.stands_at.result c.deref.ensures.value c.deref-2.ensures.value c.place_of-at.ensures.below c.place_of-at.ensures.stops c.stands_at.ensures.stands c.if-stands_at.false) c.insert_at.ensures
