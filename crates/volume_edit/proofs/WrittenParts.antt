-- The sectors where the homes of an edit are written.
use Rattle.std.proofs.Common.{◌≡◌, ◌≢◌, ◌<◌, ◌≤◌, ◌+◌, ℕ, List, [], ◌∷◌, length, refl, sym, ap, ◌∙◌, subst, arith}
use Rattle.cal_base.specs.Limits as limits
use Rattle.std.specs.Prelude.{slice_set}
use Rattle.std.proofs.lemmas.List.{length-set}
use Rattle.journal.specs.Layout.{sector}
use Rattle.journal.proofs.Sectors.{sector_other, sector_same}
use Rattle.shared_disk.specs.Sectors.{written}
use Rattle.volume.specs.Volume.{Volume}
use Rattle.volume_edit.specs.Homes.{Part, Spell, SpellsPart, sector_of}
use Rattle.volume_edit.proofs.PartLists.{Each, Rise}

-- a sector that is no home is as before
pub unwritten : (v : Volume) (ps : List Part) (homes : List (ℕ × List ℕ)) (x : List (List ℕ)) (j : ℕ) → Spell v ps homes → Each (λ part. sector_of v part ≢ j) ps → sector (written x homes) j ≡ sector x j
unwritten v [] [] x j s apart = refl
unwritten v [] (home ∷ homes) x j s apart = absurd s
unwritten v (part ∷ ps) [] x j s apart = absurd s
unwritten v (part ∷ ps) (home ∷ homes) x j s apart =
    unwritten v ps homes (slice_set x home.0 home.1) j s.1 apart.1 ∙ sector_other x home.0 j home.1 (λ same. apart.0 (sym s.0.0 ∙ sym same))

-- sectors that rise are apart from those below and above
pub apart_below : (v : Volume) (ps : List Part) (least end j : ℕ) → Rise v least end ps → j < least → Each (λ part. sector_of v part ≢ j) ps
apart_below v [] least end j r low = tt
apart_below v (part ∷ ps) least end j r low = (let from = r.0 in (λ same. omega arith, apart_below v ps (sector_of v part + 1) end j r.1.1 (omega arith)))

pub apart_above : (v : Volume) (ps : List Part) (least end j : ℕ) → Rise v least end ps → end ≤ j → Each (λ part. sector_of v part ≢ j) ps
apart_above v [] least end j r high = tt
apart_above v (part ∷ ps) least end j r high = (let below = r.1.0 in (λ same. omega arith, apart_above v ps (sector_of v part + 1) end j r.1.1 high))

-- each part is spelled in its sector
abbrev pub IsTold : Volume → List (List ℕ) → Part → Type 0
IsTold v y part = SpellsPart v part (sector y (sector_of v part))

pub told : (v : Volume) (ps : List Part) (homes : List (ℕ × List ℕ)) (x : List (List ℕ)) (least : ℕ) → Spell v ps homes → Rise v least limits.sectors ps → length x ≡ limits.sectors → Each (IsTold v (written x homes)) ps
told v [] [] x least s r long = tt
told v [] (home ∷ homes) x least s r long = absurd s
told v (part ∷ ps) [] x least s r long = absurd s
told v (part ∷ ps) (home ∷ homes) x least s r long =
    let at : home.0 ≡ sector_of v part = s.0.0 in
    let below = r.1.0 in
    let x' = slice_set x home.0 home.1 in
    let here : sector x' (sector_of v part) ≡ home.1 = ap (sector x') (sym at) ∙ sector_same x home.0 home.1 (omega arith) in
    let kept : sector (written x' homes) (sector_of v part) ≡ sector x' (sector_of v part) = unwritten v ps homes x' (sector_of v part) s.1 (apart_below v ps (sector_of v part + 1) limits.sectors (sector_of v part) r.1.1 (omega arith)) in
    (subst (SpellsPart v part) (sym (kept ∙ here)) s.0.1, told v ps homes x' (sector_of v part + 1) s.1 r.1.1 (length-set x home.0 home.1 ∙ long))
