-- A directory's ordered entries as a finite map.
use Rattle.std.proofs.Common.{◌≡◌, ◌&&◌, ℕ, Bool, true, false, List, [], ◌∷◌, length, Option, Some, None, refl, sym, ap, ◌∙◌, subst, T, cond}
use Rattle.std.specs.declared.cmp.Ordering.{Ordering}
use Rattle.std.specs.Ordering.{nat_cmp, match_ordering, eq_by_cmp}
use Rattle.std.specs.declared.cmp.Ordering.TheVariants.{Less, Equal, Greater}
use Rattle.std.specs.Cmp.{eq_by_cmp_equiv}
use Rattle.std.specs.Cmp.Lexicographic.{slice_cmp, nat_list_cmp_total}
use Rattle.std.specs.FinMap as map
use Rattle.std.specs.FinMap.Entries as sorted
use Rattle.std.specs.Map.{lookup, keys_of, values_of, remove_entry}
use Rattle.std.specs.BTreeMap as tree
use Rattle.cal_base.specs.declared.identity.Ino.{Ino}

abbrev pub Row : Type 0
Row = List (List ℕ × Ino)

abbrev order : List ℕ → List ℕ → Ordering
order = slice_cmp nat_cmp

lookup_is_find : (name : List ℕ) (row : Row) → lookup (tree.is_at (order name)) row ≡ map.find order name row
lookup_is_find name [] = refl
lookup_is_find name (e ∷ row) = ap (λ (rest : Option Ino). cond (eq_by_cmp order name e.0) (Some e.1) rest) (lookup_is_find name row)

insert_is_put : (name : List ℕ) (ino : Ino) (row : Row) → tree.insert_entry order row name ino ≡ map.put order name ino row
insert_is_put name ino [] = refl
insert_is_put name ino (e ∷ row) =
    let rest = insert_is_put name ino row in
    elim (order name e.0) as (λ o. match_ordering o ((name, ino) ∷ e ∷ row) ((e.0, ino) ∷ row) (e ∷ tree.insert_entry order row name ino) ≡ sorted.by_order o ((name, ino) ∷ e ∷ row) ((e.0, ino) ∷ row) (e ∷ map.put order name ino row)) [
      | Less ↦ refl
      | Equal ↦ refl
      | Greater ↦ ap (λ (r : Row). e ∷ r) rest
    ]

-- a look-up in the ordered entries is one in the map
pub got : (name : List ℕ) (row : Row) → T (map.is_sorted order row) → lookup (tree.is_at (order name)) row ≡ map.get (map.from_sorted {R = order} row) name
got name row h = lookup_is_find name row ∙ sym (map.get-from_sorted order row name h)

pub counted : (row : Row) → T (map.is_sorted order row) → length row ≡ map.len (map.from_sorted {R = order} row)
counted row h = sym (map.len-entries (map.from_sorted {R = order} row) ∙ ap length (map.entries-from_sorted order row h))

pub sorted_insert : (name : List ℕ) (ino : Ino) (row longer : Row) → longer ≡ tree.insert_entry order row name ino → T (map.is_sorted order row) → T (map.is_sorted order longer)
sorted_insert name ino row longer e h = subst (λ (r : Row). T (map.is_sorted order r)) (sym (e ∙ insert_is_put name ino row)) (sorted.is_sorted-put order nat_list_cmp_total name ino row h)

-- an entry put among the ordered ones is one put into the map
pub inserted : (name : List ℕ) (ino : Ino) (row longer : Row) → longer ≡ tree.insert_entry order row name ino → T (map.is_sorted order row)
    → map.from_sorted {R = order} longer ≡ map.insert (map.from_sorted {R = order} row) name ino
inserted name ino row longer e h =
    map.same_entries_map _ _
    (map.entries-from_sorted order longer (sorted_insert name ino row longer e h) ∙ e ∙ insert_is_put name ino row
    ∙ sym (map.entries-insert nat_list_cmp_total (map.from_sorted {R = order} row) name ino ∙ ap (map.put order name ino) (map.entries-from_sorted order row h)))

pub none : (row : Row) → row ≡ [] → map.from_sorted {R = order} row ≡ map.empty
none row e = map.empty_of_len _ (subst (λ (r : Row). map.len (map.from_sorted {R = order} r) ≡ 0) (sym e) (map.len-entries _ ∙ ap length (map.entries-from_sorted order [] tt)))

-- the names of the ordered entries are the keys of the map
pub listed : (row : Row) → T (map.is_sorted order row) → keys_of row ≡ map.keys (map.from_sorted {R = order} row)
listed row h = ap (λ (es : Row). keys_of es) (sym (map.entries-from_sorted order row h))

both : (a b : Bool) → T a → T b → T (a && b)
both true b p q = q
both false b p q = p

first : (a b : Bool) → T (a && b) → T a
first true b p = tt
first false b p = p

second : (a b : Bool) → T (a && b) → T b
second true b p = p
second false b p = absurd p

below_removed : (x : List ℕ) (test : List ℕ → Bool) (row : Row) → T (sorted.below_all order x row) → T (sorted.below_all order x (remove_entry test row))
below_removed x test [] h = tt
below_removed x test (e ∷ row) h =
    let rest = below_removed x test row (second _ _ h) in
    elim (test e.0) as (λ b. T (sorted.below_all order x (cond b row (e ∷ remove_entry test row)))) [
      | true ↦ second _ _ h
      | false ↦ both _ _ (first _ _ h) rest
    ]

sorted_removed : (test : List ℕ → Bool) (row : Row) → T (map.is_sorted order row) → T (map.is_sorted order (remove_entry test row))
sorted_removed test [] h = tt
sorted_removed test (e ∷ row) h =
    let rest = sorted_removed test row (second _ _ h) in
    elim (test e.0) as (λ b. T (map.is_sorted order (cond b row (e ∷ remove_entry test row)))) [
      | true ↦ second _ _ h
      | false ↦ both _ _ (below_removed e.0 test row (first _ _ h)) rest
    ]

pub sorted_remove : (test : List ℕ → Bool) (row shorter : Row) → shorter ≡ remove_entry test row → T (map.is_sorted order row) → T (map.is_sorted order shorter)
sorted_remove test row shorter e h = subst (λ (r : Row). T (map.is_sorted order r)) (sym e) (sorted_removed test row h)

-- an entry taken from the ordered ones is one taken from the map
pub removed : (name : List ℕ) (row shorter : Row) → T (map.is_sorted order row) → T (map.is_sorted order shorter)
    → ((q : List ℕ) → lookup (tree.is_at (order q)) shorter ≡ cond (tree.is_at (order name) q) None (lookup (tree.is_at (order q)) row))
    → map.from_sorted {R = order} shorter ≡ map.remove (map.from_sorted {R = order} row) name
removed name row shorter h h' updates =
    map.same_map nat_list_cmp_total (map.slice_cmp-IsAntisymmetric map.nat_cmp-IsAntisymmetric) _ _
    (λ q. sym (got q shorter h') ∙ updates q ∙ ap (cond (tree.is_at (order name) q) None) (got q row h)
    ∙ ap (λ (b : Bool). cond b None (map.get (map.from_sorted {R = order} row) q)) ((eq_by_cmp_equiv nat_list_cmp_total).symm name q)
    ∙ sym (map.get-remove nat_list_cmp_total (map.from_sorted {R = order} row) name q))

-- the inodes of the ordered entries are the values of the map
pub listed_inodes : (row : Row) → T (map.is_sorted order row) → values_of row ≡ map.values (map.from_sorted {R = order} row)
listed_inodes row h = ap (λ (es : Row). values_of es) (sym (map.entries-from_sorted order row h))
