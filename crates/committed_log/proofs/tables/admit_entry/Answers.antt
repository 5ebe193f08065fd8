use Rattle.std.proofs.Common.{◌≡◌, ◌∙◌, ◌<◌, ◌^◌, sym, ap, subst, ℤ, true, None, List, length, w64, SFits, rules}
use Rattle.std.proofs.lemmas.Int.{to_z-of_z}
use Rattle.flash_types.specs.Ranges.{holds}
use Rattle.log_codec.specs.Writable.{BodyCanBeWritten}
use Rattle.log_codec.specs.declared.entry.Op.{Op}
use Rattle.committed_log.specs.Admission.{range_fault, birth_fault}
use Rattle.committed_log.specs.Owned.{IsBare}
use Rattle.committed_log.proofs.Faults.{head_is_fine}
use Rattle.committed_log.proofs.Lying.{bare_born}
use Rattle.committed_log.proofs.tables.admit_entry.Goals as goal

pub admit_install-requires : goal.admit_install-requires
admit_install-requires g c =
    let fits : SFits w64 c.in-Install.low = search rules in
    let here : range_fault g.store.regions c.args.entry.now.region c.args.entry.now.body ≡ None = (head_is_fine _ g.store.regions c.args.entry.now c.requires.1.1.1.1.1).range in
    let birth : birth_fault g.store.regions (record { low = c.in-Install.low; high = c.in-Install.high }) ≡ None = sym (ap (range_fault g.store.regions c.args.entry.now.region) c.in-Install.is) ∙ here in (
      c.requires.0,
      (
        c.requires.1.0,
        (
          subst (λ (low : ℤ). (h : ℤ) → holds (record { low = low; high = c.in-Install.high }) h ≡ true → IsBare h g.store) (sym (to_z-of_z w64 _ fits)) (bare_born g.store c.requires.1.1.0 (record { low = c.in-Install.low; high = c.in-Install.high }) birth),
          (
            subst (λ (ops : List Op). length ops < 2 ^ 32) (sym c.as_slice-in-Install.ensures) (subst BodyCanBeWritten c.in-Install.is c.requires.1.1.1.0.form.body).list.count,
            c.requires.1.1.1.1.0,
          ),
        ),
      ),
    )
