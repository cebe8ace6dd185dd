-- Clients whose purge isn't marked are listed, one after the other.
use Rattle.std.proofs.Common.{◌≡◌, ◌+◌, ◌++◌, ◌∷◌, [], ℕ, suc, Bool, true, false, if◌then◌else◌, List, filter, refl, sym, ap, ◌∙◌, arith}
use Rattle.std.proofs.lemmas.List.Elements.{filter-append}
use Rattle.cal_base.specs.declared.identity.ClientId.{ClientId}
use Rattle.cluster_law.specs.ServerState.{is_present, listing_all}
use Rattle.rebuild.specs.Collecting.{Collecting, listing}
use Rattle.token_table.specs.Blockers.{clients_below}
use Rattle.volume.specs.Volume.{Volume}
use Rattle.server_desk.specs.Desk.{DeskValue}

-- nobody is listed yet
pub list-none : (volume : Volume) (desk : DeskValue) → desk ≡ record desk { collecting = listing_all desk.collecting (filter (is_present volume) (clients_below 0)) }
unfolding clients_below listing_all
list-none volume desk = refl

-- clients that are listed after others
list-then : (collecting : Collecting) (xs ys : List ClientId) → listing_all collecting (xs ++ ys) ≡ listing_all (listing_all collecting xs) ys
unfolding listing_all
list-then collecting [] ys = refl
list-then collecting (x ∷ xs) ys = list-then (listing collecting x) xs ys

list-one : (collecting : Collecting) (client : ClientId) (present : Bool) → listing_all collecting (if present then client ∷ [] else []) ≡ (if present then listing collecting client else collecting)
unfolding listing_all
list-one collecting client true = refl
list-one collecting client false = refl

filter-one : (p : ClientId → Bool) (client : ClientId) → filter p (client ∷ []) ≡ (if p client then client ∷ [] else [])
filter-one p client = by (p client)
  where
    by : (b : Bool) → (if b then client ∷ [] else []) ≡ (if b then client ∷ [] else [])
    by b = refl

-- the next client is listed, if its purge isn't marked
pub list-more : (volume : Volume) (first mid last : DeskValue) (n : ℕ) → mid ≡ record first { collecting = listing_all first.collecting (filter (is_present volume) (clients_below n)) }
    → last ≡ record mid { collecting = if is_present volume (record { 0 = n }) then listing mid.collecting (record { 0 = n }) else mid.collecting }
    → last ≡ record first { collecting = listing_all first.collecting (filter (is_present volume) (clients_below (n + 1))) }
unfolding clients_below
list-more volume first mid last n before lists =
    let test = is_present volume in
    let client : ClientId = record { 0 = n } in
    let next : n + 1 ≡ suc n = omega arith in
    let one : listing_all (listing_all first.collecting (filter test (clients_below n))) (filter test (client ∷ [])) ≡ (if test client then listing (listing_all first.collecting (filter test (clients_below n))) client else listing_all first.collecting (filter test (clients_below n)))
    = ap (listing_all (listing_all first.collecting (filter test (clients_below n)))) (filter-one test client) ∙ list-one (listing_all first.collecting (filter test (clients_below n))) client (test client) in
    let all : (if test client then listing (listing_all first.collecting (filter test (clients_below n))) client else listing_all first.collecting (filter test (clients_below n))) ≡ listing_all first.collecting (filter test (clients_below (n + 1)))
    = sym one
    ∙ sym (list-then first.collecting (filter test (clients_below n)) (filter test (client ∷ [])))
    ∙ ap (listing_all first.collecting) (sym (filter-append test (clients_below n) (client ∷ [])))
    ∙ ap (λ (k : ℕ). listing_all first.collecting (filter test (clients_below k))) (sym next) in
    lists
    ∙ ap (λ (d : DeskValue). record d { collecting = if test client then listing d.collecting client else d.collecting }) before
    ∙ ap (λ (x : Collecting). record first { collecting = x }) all
