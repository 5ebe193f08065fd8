use Rattle.std.proofs.Common.{◌≡◌, ◌++◌, ◌∷◌, [], List, Option, Some, ap, ◌∙◌, arith, length, refl}
use Rattle.column_codec.proofs.TextPlaces.{pushed}
use Rattle.column_codec.proofs.texts.Texts.push.Goals as goal

pub returns-in-Ok-push-clause-ok : goal.returns-in-Ok-push-clause-ok
returns-in-Ok-push-clause-ok c =
    let bytes = c.self.inside.bytes.items in
    let spans = c.self.inside.spans.items in
    let text = c.in-Some.text.now in
    let from = c.len-from.result in
    let to = c.len-to.result in
    let f : from ≡ length bytes = omega arith in
    let e : c.extend_from_slice.new.self.items ≡ bytes ++ text = c.in_ok-extend_from_slice-in-Some.ensures.items in
    let t : to ≡ length (bytes ++ text) = omega (arith, ap length e) in
    let p : c.push-in-Some.new.self.items ≡ spans ++ Some (record { from = from; to = to }) ∷ [] = c.in-Ok-push.ensures.items ∙ ap (λ (xs : List (Option _)). xs ++ Some (record { from = from; to = to }) ∷ []) c.reserve.ensures.items in
    let all = pushed bytes text spans from to c.self.invariant f t in
    rw (e, p, all, c.self.view_is, c.in-Some.is) refl
