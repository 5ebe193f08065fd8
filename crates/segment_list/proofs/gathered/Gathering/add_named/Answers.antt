use Rattle.std.proofs.Common.{◌≡◌, ◌∙◌, ◌+◌, ◌-◌, ◌++◌, ap, suc, ℕ, List, [], ◌∷◌, take, drop, arith}
use Rattle.std.specs.Prelude.{filter, slice_get}
use Rattle.column_file.specs.declared.file.ColumnFile.{ColumnFile}
use Rattle.delta_layer.specs.Files.{is_tiny}
use Rattle.segment_list.specs.Slots.{Gathered, clip_files, file_speaks}
use Rattle.segment_list.proofs.Gathers.{behind, tiny_same}
use Rattle.segment_list.proofs.Replacing.{named_more}
use Rattle.segment_list.proofs.gathered.Gathering.add_named.Goals as goal

pub push_named-requires : goal.push_named-requires
push_named-requires c = ap is_tiny c.in_ok-part.ensures ∙ tiny_same c.args.range c.file.result.now ∙ c.requires.no_tiny c.loop-k.k c.file.result.now c.loop-k.auto.k c.file.ensures

pub loop-k-preserved : goal.loop-k-preserved
loop-k-preserved c =
    let n : ℕ = c.loop-k.k - c.args.from in
    let far : c.args.from + n ≡ c.loop-k.k = omega (arith, c.loop-k.auto.k) in
    let next : suc n ≡ c.loop-k.k + 1 - c.args.from = omega (arith, c.loop-k.auto.k) in
    c.in_ok-push_named.ensures
    ∙ ap (λ (r : Gathered). record r { files = r.files ++ filter file_speaks (c.in_ok-part.part ∷ []) }) c.loop-k.invariant
    ∙ ap (λ (f : ColumnFile). record c.args.self.now { files = (c.args.self.now.files ++ clip_files c.args.range (take n (drop c.args.from c.args.layer.now))) ++ filter file_speaks (f ∷ []) }) c.in_ok-part.ensures
    ∙ ap (λ (fs : List ColumnFile). record c.args.self.now { files = fs }) (named_more c.args.range c.args.self.now.files (drop c.args.from c.args.layer.now) n c.file.result.now (behind c.args.from c.args.layer.now n ∙ ap (λ (k : ℕ). slice_get c.args.layer.now k) far ∙ c.file.ensures))
    ∙ ap (λ (k : ℕ). record c.args.self.now { files = c.args.self.now.files ++ clip_files c.args.range (take k (drop c.args.from c.args.layer.now)) }) next
