-- Clients are asked one after the other, as the law asks.
use Rattle.std.proofs.Common.{◌≡◌, ◌≢◌, ◌<◌, ◌+◌, ◌∷◌, ◌++◌, ◌&&◌, inl, inr, [], ℕ, zero, suc, Bool, true, false, if◌then◌else◌, List, Option, Some, None, is_some, nat_eq, nat_lt, cond, count_by, filter, length, get_or, set, replicate, append-nil, ap, refl, subst, sym, ◌∙◌, arith}
use Rattle.std.specs.List.{position}
use Rattle.std.specs.Option.{option_map}
use Rattle.std.proofs.lemmas.Bool.{and_left, cases_eq, eq-eqb, false≢true, ne_eqb}
use Rattle.std.proofs.lemmas.List.{get_or-set_other, get_or-set_same}
use Rattle.std.proofs.lemmas.List.Elements.{filter_agree}
use Rattle.std.proofs.lemmas.List.Quantifiers.{position-Some}
use Rattle.std.proofs.lemmas.List.Sums.{sum_by-set}
use Rattle.std.proofs.lemmas.Option.{unwrap_or-slice_get}
use Rattle.cal_base.specs.Limits.{clients}
use Rattle.cal_base.specs.declared.identity.ClientId.{ClientId}
use Rattle.message.specs.declared.message.Message.{Message}
use Rattle.message.specs.declared.message.Message.TheVariants.{Ask}
use Rattle.rebuild.specs.Collecting.{Collecting, asking, client, is_asked, is_to_ask, is_unlisted, listing, next_of, standing_of, with_standing}
use Rattle.rebuild.specs.declared.reporting.Reporting.{Reporting}
use Rattle.rebuild.specs.declared.reporting.Reporting.TheVariants.{Unlisted, Listed, Asked, Whole, Purged}
use Rattle.server_book.proofs.SameTables.{same-refl}
use Rattle.server_desk.specs.Desk.{DeskValue, IsLike, with_desk}
use Rattle.token_table.specs.Blockers.{clients_below}
use Rattle.token_table.specs.Table.{Table}
use Rattle.volume.specs.Volume.{SpellsVolume, Volume}
use Rattle.volume_edit.specs.Edit.{IsVolume}
use Rattle.cluster_law.specs.Asking.{first_to_admit, is_to_admit, is_whole}
use Rattle.cluster_law.specs.Lanes.{Act, same_lane}
use Rattle.cluster_law.specs.Lists.{first_of}
use Rattle.cluster_law.specs.ServerRules.{ActsWell, BootActs, LineRests}
use Rattle.cluster_law.specs.ServerState.{ServerState, after_act, after_acts, empty_table, is_admitted, is_present, listing_all, serving, table_in}
use Rattle.cluster_law.specs.Sessions.{told_in}
use Rattle.server_start.specs.Boots.{Asks, asks, boot_acts, booting, lane_to, was_asked}
use Rattle.server_start.specs.Formats.{new_desk}
use Rattle.server_start.specs.Turns.{IsAsking}

-- a client that is to be asked is listed
to-ask-is-listed : (r : Reporting) → is_to_ask r ≡ true → r ≡ Listed
to-ask-is-listed Unlisted is = absurd (false≢true is)
to-ask-is-listed Listed is = refl
to-ask-is-listed (Asked next) is = absurd (false≢true is)
to-ask-is-listed Whole is = absurd (false≢true is)
to-ask-is-listed Purged is = absurd (false≢true is)

-- the next client that is asked: it stands within the list, and is listed
record IsNext (s : Collecting) (c : ClientId) : Type 0 where
  within : c.0 < length s.standings
  listed : get_or s.standings c.0 Unlisted ≡ Listed

first-is : (b : Bool) (first : Option ℕ) (c : ClientId) → (if b then option_map client first else None) ≡ Some c → first ≡ Some c.0
first-is false first c is = absurd (none≢some c is)
  where
    none≢some : (c : ClientId) → None ≢ Some c
    none≢some c e = false≢true (ap (λ (o : Option ClientId). is_some o) e)
first-is true None c is = ap (option_map (λ (c : ClientId). c.0)) is
first-is true (Some n) c is = ap (option_map (λ (c : ClientId). c.0)) is

next-is : (s : Collecting) (c : ClientId) → next_of s ≡ Some c → IsNext s c
next-is s c is =
    let at = position-Some is_to_ask s.standings c.0 Unlisted (first-is (nat_lt (count_by is_asked s.standings) s.window) (position is_to_ask s.standings) c is) in
    record { within = at.0; listed = to-ask-is-listed (get_or s.standings c.0 Unlisted) at.1 }

-- fewer are to be asked then
pub fewer-to-ask : (s t : Collecting) (c : ClientId) → next_of s ≡ Some c → t ≡ asking s (Some c) → count_by is_to_ask t.standings < count_by is_to_ask s.standings
fewer-to-ask s t c is made =
    let at = next-is s c is in
    let counted : ◌≡◌ {A = ℕ} (count_by is_to_ask (set s.standings c.0 (Asked 0)) + cond (is_to_ask (get_or s.standings c.0 Unlisted)) 1 0) (count_by is_to_ask s.standings + 0)
    = sum_by-set (λ r. cond (is_to_ask r) 1 0) s.standings c.0 (Asked 0) Unlisted at.within in
    let one : ◌≡◌ {A = ℕ} (cond (is_to_ask (get_or s.standings c.0 Unlisted)) 1 0) 1 = ap (λ (r : Reporting). cond (is_to_ask r) 1 0) at.listed in
    subst (λ (x : Collecting). count_by is_to_ask x.standings < count_by is_to_ask s.standings) (sym made) (omega (arith, counted, one))

-- where a client stands that was asked, or another
at-asked : (s : Collecting) (c : ClientId) → IsNext s c → standing_of (asking s (Some c)) c ≡ Asked 0
at-asked s c at = unwrap_or-slice_get (set s.standings c.0 (Asked 0)) c.0 Unlisted ∙ get_or-set_same s.standings c.0 (Asked 0) Unlisted at.within

at-listed : (s : Collecting) (c : ClientId) → IsNext s c → standing_of s c ≡ Listed
at-listed s c at = unwrap_or-slice_get s.standings c.0 Unlisted ∙ at.listed

at-other : (s : Collecting) (c other : ClientId) → other.0 ≢ c.0 → standing_of (asking s (Some c)) other ≡ standing_of s other
at-other s c other apart =
    unwrap_or-slice_get (set s.standings c.0 (Asked 0)) other.0 Unlisted ∙ get_or-set_other s.standings c.0 other.0 (Asked 0) Unlisted apart ∙ sym (unwrap_or-slice_get s.standings other.0 Unlisted)

-- an Ask of the next client is as the law asks
ask-well : (o : ClientId → Bool) (start : ServerState) (before : List Act) (view : ℕ) (desk : DeskValue) (volume : Volume) (own : List (List ℕ)) (c : ClientId) → desk.collecting.table ≡ empty_table → next_of desk.collecting ≡ Some c
    → ActsWell (booting o) start (with_desk desk volume own) before (asks view c)
unfolding after_act
ask-well o start before view desk volume own c unheld next =
    let none : length desk.collecting.table.writes ≡ 0 = ap (λ (t : Table). length t.writes) unheld in
    record {
      grants = tt;
      refuses = tt;
      commits = tt;
      collects = next;
      revokes = tt;
      removes = tt;
      reserve = λ _. omega (arith, none);
    }

-- what was told, once one client more is asked
told-more : (view : ℕ) (to : ClientId) (acts : List Act) (before : List Message) (b : Bool) → told_in (lane_to view to) acts ≡ before → (c : ClientId) → nat_eq c.0 to.0 ≡ b
    → told_in (lane_to view to) (asks view c ∷ acts) ≡ before ++ (if b then Ask ∷ [] else [])
unfolding told_in
told-more view to acts before b told c same =
    let here : same_lane (lane_to view c) (lane_to view to) ≡ b = (let own = eq-eqb view view refl in by (nat_eq c.0 to.0) (nat_eq view view) own ∙ same) in
    ap (λ (ms : List Message). ms ++ (if same_lane (lane_to view c) (lane_to view to) then Ask ∷ [] else [])) told ∙ ap (λ (x : Bool). before ++ (if x then Ask ∷ [] else [])) here
  where
    by : (x y : Bool) → y ≡ true → (x && y && true) ≡ x
    by true y own = subst (λ (z : Bool). (true && z && true) ≡ true) (sym own) refl
    by false y own = subst (λ (z : Bool). (false && z && true) ≡ false) (sym own) refl

told-then : (desk : DeskValue) (view : ℕ) (acts : List Act) (c : ClientId) (at : IsNext desk.collecting c) → ((to : ClientId) → told_in (lane_to view to) acts ≡ (if was_asked desk to then Ask ∷ [] else []))
    → (to : ClientId) → told_in (lane_to view to) (asks view c ∷ acts) ≡ (if was_asked (record desk { collecting = asking desk.collecting (Some c) }) to then Ask ∷ [] else [])
told-then desk view acts c at told to =
    elim (cases_eq to.0 c.0) as (λ _. told_in (lane_to view to) (asks view c ∷ acts) ≡ (if was_asked (record desk { collecting = asking desk.collecting (Some c) }) to then Ask ∷ [] else [])) [
      | inl same ↦
          let none : told_in (lane_to view c) acts ≡ [] = told c ∙ ap (λ (r : Reporting). if is_asked r then Ask ∷ [] else []) (at-listed desk.collecting c at) in
          let now : was_asked (record desk { collecting = asking desk.collecting (Some c) }) c ≡ true = ap is_asked (at-asked desk.collecting c at) in
          subst (λ (n : ℕ). told_in (lane_to view (record { 0 = n })) (asks view c ∷ acts) ≡ (if was_asked (record desk { collecting = asking desk.collecting (Some c) }) (record { 0 = n }) then Ask ∷ [] else [])) (sym same)
          (told-more view c acts [] true none c (eq-eqb c.0 c.0 refl) ∙ ap (λ (b : Bool). if b then Ask ∷ [] else []) (sym now))
      | inr apart ↦
          let still : was_asked (record desk { collecting = asking desk.collecting (Some c) }) to ≡ was_asked desk to = ap is_asked (at-other desk.collecting c to apart) in
          told-more view to acts (if was_asked desk to then Ask ∷ [] else []) false (told to) c (ne_eqb c.0 to.0 (λ same. apart (sym same)))
          ∙ append-nil (if was_asked desk to then Ask ∷ [] else [])
          ∙ ap (λ (b : Bool). if b then Ask ∷ [] else []) (sym still)
    ]

whole-then : (s : Collecting) (c : ClientId) (at : IsNext s c) → ((to : ClientId) → is_whole (standing_of s to) ≡ false) → (to : ClientId) → is_whole (standing_of (asking s (Some c)) to) ≡ false
whole-then s c at unreported to = elim (cases_eq to.0 c.0) as (λ _. is_whole (standing_of (asking s (Some c)) to) ≡ false) [
  | inl same ↦ subst (λ (n : ℕ). is_whole (standing_of (asking s (Some c)) (record { 0 = n })) ≡ false) (sym same) (ap is_whole (at-asked s c at))
  | inr apart ↦ ap is_whole (at-other s c to apart) ∙ unreported to
]

-- one client more is asked
pub asks-more : (view window : ℕ) (own : List (List ℕ)) (volume : Volume) (desk after : DeskValue) (c : ClientId) → c.0 < clients → next_of desk.collecting ≡ Some c → after ≡ record desk { collecting = asking desk.collecting (Some c) }
    → IsAsking view window own desk volume → IsAsking view window own after volume
unfolding after_acts after_act
asks-more view window own volume desk after c bound next made is =
    let at = next-is desk.collecting c next in
    let acts = boot_acts view volume is.asked in
    subst (λ (d : DeskValue). IsAsking view window own d volume) (sym made)
    (record {
      asked = c ∷ is.asked;
      within = (bound, is.within);
      reached = λ first. ap (λ (s : ServerState). record s { collecting = asking s.collecting (Some c) }) (is.reached first);
      well = λ first gone. (
        is.well first gone,
        subst (λ (s : ServerState). ActsWell (booting gone) (serving window first own) s acts (asks view c)) (sym (is.reached first)) (ask-well gone (serving window first own) acts view desk volume own c is.unheld next),
      );
      told = told-then desk view acts c at is.told;
      unreported = whole-then desk.collecting c at is.unreported;
      unheld = is.unheld;
      unwanted = is.unwanted;
      unasked = is.unasked;
    })

-- what holds of an element that is set, and of all others, holds of each
each-set : (P : Reporting → Type 0) (xs : List Reporting) (i : ℕ) (r : Reporting) → P r → ((j : ℕ) → P (get_or xs j Unlisted)) → (j : ℕ) → P (get_or (set xs i r) j Unlisted)
each-set P [] i r put all j = all j
each-set P (x ∷ xs) zero r put all zero = put
each-set P (x ∷ xs) zero r put all (suc j) = all (suc j)
each-set P (x ∷ xs) (suc i) r put all zero = all zero
each-set P (x ∷ xs) (suc i) r put all (suc j) = each-set P xs i r put (λ k. all (suc k)) j

-- as clients are listed, nobody is asked and nobody has reported
abbrev IsQuiet : Reporting → Type 0
IsQuiet r = (is_asked r ≡ false) × (is_whole r ≡ false)

list-quiet : (s : Collecting) (c : ClientId) → ((j : ℕ) → IsQuiet (get_or s.standings j Unlisted)) → (j : ℕ) → IsQuiet (get_or (listing s c).standings j Unlisted)
list-quiet s c quiet = by (is_unlisted (standing_of s c))
  where
    by : (b : Bool) → (j : ℕ) → IsQuiet (get_or (if b then with_standing s c Listed else s).standings j Unlisted)
    by true = each-set IsQuiet s.standings c.0 Listed (refl, refl) quiet
    by false = quiet

lists-quiet : (s : Collecting) (cs : List ClientId) → ((j : ℕ) → IsQuiet (get_or s.standings j Unlisted)) → (j : ℕ) → IsQuiet (get_or (listing_all s cs).standings j Unlisted)
unfolding listing_all
lists-quiet s [] quiet = quiet
lists-quiet s (c ∷ cs) quiet = lists-quiet (listing s c) cs (list-quiet s c quiet)

first-quiet : (n j : ℕ) → IsQuiet (get_or (replicate n Unlisted) j Unlisted)
first-quiet zero j = (refl, refl)
first-quiet (suc n) zero = (refl, refl)
first-quiet (suc n) (suc j) = first-quiet n j

-- and the table is as it was
list-table : (s : Collecting) (c : ClientId) → (listing s c).table ≡ s.table
list-table s c = by (is_unlisted (standing_of s c))
  where
    by : (b : Bool) → (if b then with_standing s c Listed else s).table ≡ s.table
    by true = refl
    by false = refl

lists-table : (s : Collecting) (cs : List ClientId) → (listing_all s cs).table ≡ s.table
unfolding listing_all
lists-table s [] = refl
lists-table s (c ∷ cs) = lists-table (listing s c) cs ∙ list-table s c

-- clients are listed, and nobody is asked yet
pub asks-nobody : (view window : ℕ) (own : List (List ℕ)) (volume : Volume) (first desk : DeskValue) → first ≡ new_desk window → desk ≡ record first { collecting = listing_all first.collecting (filter (is_present volume) (clients_below volume.clients)) }
    → IsAsking view window own desk volume
unfolding after_acts after_act told_in
asks-nobody view window own volume first desk new listed =
    let cs = filter (is_present volume) (clients_below volume.clients) in
    let quiet = lists-quiet (new_desk window).collecting cs (first-quiet clients) in
    let none : length (listing_all (new_desk window).collecting cs).table.writes ≡ 0 = ap (λ (t : Table). length t.writes) (lists-table (new_desk window).collecting cs) in
    let at : (to : ClientId) → standing_of (listing_all (new_desk window).collecting cs) to ≡ get_or (listing_all (new_desk window).collecting cs).standings to.0 Unlisted
    = λ to. unwrap_or-slice_get (listing_all (new_desk window).collecting cs).standings to.0 Unlisted in
    subst (λ (d : DeskValue). IsAsking view window own d volume) (sym (listed ∙ ap (λ (d : DeskValue). record d { collecting = listing_all d.collecting cs }) new))
    (record {
      asked = [];
      within = tt;
      reached = λ was. refl;
      well = λ was gone. (tt, record { grants = tt; refuses = tt; commits = tt; collects = tt; revokes = tt; removes = tt; reserve = λ _. omega (arith, none) });
      told = λ to. sym (ap (λ (b : Bool). if b then Ask ∷ [] else []) (ap is_asked (at to) ∙ (quiet to.0).0));
      unreported = λ to. ap is_whole (at to) ∙ (quiet to.0).1;
      unheld = lists-table (new_desk window).collecting cs;
      unwanted = refl;
      unasked = refl;
    })

-- nobody passes a test that is never true
passes-none : (cs : List ClientId) → filter (λ c. false) cs ≡ []
passes-none [] = refl
passes-none (c ∷ cs) = passes-none cs

-- nobody is to be admitted, where nobody has reported
admits-none : (server : ServerState) (acts : List Act) → ((to : ClientId) → is_whole (standing_of server.collecting to) ≡ false) → first_to_admit server acts ≡ None
admits-none server acts unreported =
    ap (λ (cs : List ClientId). first_of cs) (filter_agree (is_to_admit server acts) (λ c. false) (λ c. and_left (is_whole (standing_of server.collecting c)) _ (unreported c)) (clients_below clients) ∙ passes-none (clients_below clients))

-- no request waits
rests : (desk : DeskValue) (volume : Volume) (own : List (List ℕ)) → desk.requests ≡ [] → LineRests (is_admitted (with_desk desk volume own)) (with_desk desk volume own) None
rests desk volume own none =
    subst (λ rs. LineRests (is_admitted (with_desk desk volume own)) (with_desk (record desk { requests = rs }) volume own) None) (sym none) (by (is_admitted (with_desk desk volume own)))
  where
    by : (b : Bool) → LineRests b (with_desk (record desk { requests = [] }) volume own) None
    by true = record { named_is = refl; asked = refl }
    by false = refl

-- all are asked that the window lets: nothing is owed
pub asks-all : (view window : ℕ) (own : List (List ℕ)) (volume : Volume) (desk : DeskValue) → next_of desk.collecting ≡ None → IsAsking view window own desk volume → Asks view window own desk volume
asks-all view window own volume desk none is =
    let acts = boot_acts view volume is.asked in
    record {
      asked = is.asked;
      within = is.within;
      goes = λ first gone.
          let end = is.reached first in
          record {
            well = is.well first gone;
            ends = record {
              taken = tt;
              collected = record {
                asked = ap (λ (s : ServerState). next_of s.collecting) end ∙ none;
                admitted = λ _ _. ap (λ (s : ServerState). first_to_admit s acts) end ∙ admits-none (with_desk desk volume own) acts is.unreported;
              };
              line = subst (λ (s : ServerState). LineRests (is_admitted s) s None) (sym end) (rests desk volume own is.unwanted);
              removed = λ tick. absurd (false≢true tick);
            };
            like = subst (λ (s : ServerState). IsLike desk s) (sym end) (record { standing = refl; table = same-refl desk.collecting.table; requests = refl; asked = λ q. refl; volume = refl; sectors = refl });
            volume_is = ap (λ (s : ServerState). s.volume) (sym end);
            unheld = ap (λ (s : ServerState). table_in s) end ∙ is.unheld;
          };
      told = is.told;
    }

-- a boot's acts mount the volume and ask
pub mounts-first : (view : ℕ) (own : List (List ℕ)) (volume : Volume) (asked : List ClientId) → SpellsVolume own volume → IsVolume volume → BootActs own (boot_acts view volume asked)
mounts-first view own volume [] spells is = (spells, is)
mounts-first view own volume (c ∷ asked) spells is = mounts-first view own volume asked spells is

-- a desk went on to ask clients: the same requests wait, and it is still one that asks
pub record AsksOn (first desk : DeskValue) : Type 0 where
  pub requests : desk.requests ≡ first.requests
  pub asks : (view window : ℕ) (own : List (List ℕ)) (volume : Volume) → IsAsking view window own first volume → IsAsking view window own desk volume
