-- A kept manifest and the images of its disk.
use Rattle.std.proofs.Common.{◌≡◌, ◌≢◌, ℕ, ◌<◌, refl, sym, ◌∙◌, arith}
use Rattle.flash_io.specs.Image.{Image}
use Rattle.flash_io.specs.Crash.{Elsewhere}
use Rattle.manifest.specs.declared.store.Manifest.{Manifest}
use Rattle.manifest.specs.Stores.{HasStore, IsKept, Beneath, has_of}
use Rattle.manifest.proofs.NextFile.{stands_in}
use Rattle.manifest.proofs.Stays.{file_below}

pub kept_many : (m : Manifest) (old new : Image → Type 0) → IsKept old m → ((c : Image) → new c → (d : Image) × old d × (c 0 ≡ d 0) × (c m.file ≡ d m.file)) → IsKept new m
kept_many m old new kept each = record {
  root = kept.root;
  root_closes = kept.root_closes;
  root_held = λ c left. let from = each c left in from.2 ∙ kept.root_held from.0 from.1;
  content = kept.content;
  closes = kept.closes;
  held = λ c left. let from = each c left in from.3 ∙ kept.held from.0 from.1;
}

pub kept_one : (m : Manifest) (file : ℕ) (old new : Image → Type 0) → file ≢ 0 → file ≢ m.file → IsKept old m → ((c : Image) → new c → Elsewhere file old c) → IsKept new m
kept_one m file old new apart other kept each =
    kept_many m old new kept (λ c left. let from = each c left in (from.0, from.1, from.2 0 (λ is. apart (sym is)), from.2 m.file (λ is. other (sym is))))

below_next : (m : Manifest) → m.file < m.state.next
below_next m = file_below m.file m.state m.formed

root_below : (m : Manifest) → 0 < m.state.next
root_below m = omega (arith, below_next m)

pub store_now : (m : Manifest) (old : Image → Type 0) (c : Image) → IsKept old m → old c → HasStore c m.file (has_of m)
store_now m old c kept now = stands_in m old kept c c now refl refl

pub store_staged : (m : Manifest) (old : Image → Type 0) (c : Image) → IsKept old m → Beneath m.state.next old c → HasStore c m.file (has_of m)
store_staged m old c kept beneath = stands_in m old kept c beneath.0 beneath.1 (beneath.2 0 (root_below m)) (beneath.2 m.file (below_next m))

pub kept_staged : (m : Manifest) (old new : Image → Type 0) → IsKept old m → ((c : Image) → new c → Beneath m.state.next old c) → IsKept new m
kept_staged m old new kept each = kept_many m old new kept (λ c left. let from = each c left in (from.0, from.1, from.2 0 (root_below m), from.2 m.file (below_next m)))
