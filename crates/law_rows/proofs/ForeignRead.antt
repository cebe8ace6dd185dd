-- A client reads what another wrote: the traces of so many steps, from the first to the last.
use Rattle.std.proofs.Common.{◌≡◌, refl, [], ◌∷◌, List, arith, length, ◌∙◌}
use Rattle.std.specs.Prelude.{slice_set}
use Rattle.cal_fields.specs.Padded.{padded}
use Rattle.tree_law.specs.Tree.{empty_tree, first_nodes}
use Rattle.volume_edit.specs.Homes.{AreHomes}
use Rattle.cluster_law.specs.History.{client_at, history, server_at}
use Rattle.cluster_law.specs.Noted.{Noted}
use Rattle.cluster_law.specs.Sessions.{acked_in, client_view, made_in, taken_in}
use Rattle.cluster_law.specs.Trace.{has_crashed, own_sectors, packets, seat, sectors_at, server_of}
use Rattle.law_rows.proofs.StartsCreate.{keeps0, next0}
use Rattle.law_rows.proofs.CommitsCreate.{keeps1, next1}
use Rattle.law_rows.proofs.AnswersCreate.{keeps2, next2}
use Rattle.law_rows.proofs.HearsCreate.{keeps3, next3}
use Rattle.law_rows.proofs.StartsOpen.{keeps4, next4}
use Rattle.law_rows.proofs.GrantsOpen.{keeps5, next5}
use Rattle.law_rows.proofs.AnswersOpen.{keeps6, next6}
use Rattle.law_rows.proofs.HearsOpen.{keeps7, next7}
use Rattle.law_rows.proofs.StartsWrite.{keeps8, next8}
use Rattle.law_rows.proofs.GrantsWrite.{keeps9, next9}
use Rattle.law_rows.proofs.AnswersWrite.{keeps10, next10}
use Rattle.law_rows.proofs.HearsWrite.{keeps11, next11}
use Rattle.law_rows.proofs.ReaderStartsOpen.{keeps12, next12}
use Rattle.law_rows.proofs.ReaderGrantedOpen.{keeps13, next13}
use Rattle.law_rows.proofs.ReaderAnswersOpen.{keeps14, next14}
use Rattle.law_rows.proofs.HearsReaderOpen.{keeps15, next15}
use Rattle.law_rows.proofs.ReaderStartsRead.{keeps16, next16}
use Rattle.law_rows.proofs.AsksBack.{keeps17, next17}
use Rattle.law_rows.proofs.FlushesBytes.{keeps18, next18}
use Rattle.law_rows.proofs.ReaderHears.{keeps19, next19}
use Rattle.law_rows.proofs.CommitsFlush.{keeps20, next20}
use Rattle.law_rows.proofs.IsFlushed.{keeps21, next21}
use Rattle.law_rows.proofs.ReaderAnswersRead.{keeps22, next22}
use Rattle.law_rows.proofs.HearsFlush.{keeps23, next23}
use Rattle.law_rows.proofs.HearsReaderRead.{keeps24}
use Rattle.std.proofs.lemmas.List.{length-append, length-set}
use Rattle.std.specs.Prelude.{◌<◌, ◌+◌, take}
use Rattle.law_rows.specs.ReadTwice.{AllKeep}
use Rattle.law_rows.proofs.Knowing.{At}
use Rattle.law_rows.specs.CreateFile as creating
use Rattle.law_rows.specs.ForeignRead.{Homes, created_homes, flushed_homes, flushing, foreign_read, starts_create, commits_create, answers_create, hears_create, starts_open, grants_to_open, answers_open, hears_open, starts_write, grants_to_write, answers_write, hears_write, reader_starts_open, grants_reader_to_open, reader_answers_open, hears_reader_open, reader_starts_read, asks_back, flushes_bytes, reader_hears, commits_flush, hears_flushed, reader_answers_read, hears_flush, hears_reader_read, with_file}
use Rattle.law_rows.specs.Formatted.{Sectors, first_disk, formatted, setting}
use Rattle.law_rows.proofs.KnownValues.{known0, known1, known2, known3, known4, known5, known6, known7, known8, known9, known10, known11, known12, known13, known14, known15, known16, known17, known18, known19, known20, known21, known22, known23, known24}

at0 : (s : Sectors) (h : Homes) → At (setting 2 s) [] (known0 s h)
unfolding padded packets seat server_of client_view has_crashed own_sectors sectors_at made_in taken_in acked_in client_at server_at history empty_tree first_nodes
at0 s h = record {
  packets = refl;
  seat = refl;
  server_of = λ v. refl;
  view0 = refl;
  view1 = refl;
  crashed0 = refl;
  crashed1 = refl;
  present0 = refl;
  present1 = refl;
  up0 = record { made = refl; taken = refl; acked = refl };
  down0 = record { made = refl; taken = refl; acked = refl };
  up1 = record { made = refl; taken = refl; acked = refl };
  down1 = record { made = refl; taken = refl; acked = refl };
  others = λ c e f. refl;
  client0 = refl;
  client1 = refl;
  tree = refl;
  disk = refl;
  held = refl;
  collecting = refl;
  requests = refl;
  asked = refl;
  volume = refl;
}

-- 22 sectors stand before the others
others-count : (s : Sectors) → length (first_disk s).sectors ≡ 2596 → length s.others ≡ 2574
others-count s count = let parts : length (first_disk s).sectors ≡ 22 + length s.others = length-append (take 22 (first_disk s).sectors) s.others in omega (arith, parts, count)

-- the disk has the block of the flushed bytes
long : (s : Sectors) (h : Homes) (t : List Noted) → length s.others ≡ 2574 → 549 < length (own_sectors (setting 2 s) 1 (reader_hears s h ∷ t))
unfolding padded own_sectors sectors_at
long s h t e = let size : length (slice_set (slice_set (slice_set s.others 14 h.root) 15 h.file) 526 h.names) ≡ 2574 = length-set (slice_set (slice_set s.others 14 h.root) 15 h.file) 526 h.names ∙ length-set (slice_set s.others 14 h.root) 15 h.file ∙ length-set s.others 14 h.root ∙ e in rw size (omega arith)

abbrev trace0 : Sectors → Homes → List Noted
trace0 s h = []

abbrev trace1 : Sectors → Homes → List Noted
trace1 s h = starts_create s h ∷ trace0 s h

abbrev trace2 : Sectors → Homes → List Noted
trace2 s h = commits_create s h ∷ trace1 s h

abbrev trace3 : Sectors → Homes → List Noted
trace3 s h = answers_create s h ∷ trace2 s h

abbrev trace4 : Sectors → Homes → List Noted
trace4 s h = hears_create s h ∷ trace3 s h

abbrev trace5 : Sectors → Homes → List Noted
trace5 s h = starts_open s h ∷ trace4 s h

abbrev trace6 : Sectors → Homes → List Noted
trace6 s h = grants_to_open s h ∷ trace5 s h

abbrev trace7 : Sectors → Homes → List Noted
trace7 s h = answers_open s h ∷ trace6 s h

abbrev trace8 : Sectors → Homes → List Noted
trace8 s h = hears_open s h ∷ trace7 s h

abbrev trace9 : Sectors → Homes → List Noted
trace9 s h = starts_write s h ∷ trace8 s h

abbrev trace10 : Sectors → Homes → List Noted
trace10 s h = grants_to_write s h ∷ trace9 s h

abbrev trace11 : Sectors → Homes → List Noted
trace11 s h = answers_write s h ∷ trace10 s h

abbrev trace12 : Sectors → Homes → List Noted
trace12 s h = hears_write s h ∷ trace11 s h

abbrev trace13 : Sectors → Homes → List Noted
trace13 s h = reader_starts_open s h ∷ trace12 s h

abbrev trace14 : Sectors → Homes → List Noted
trace14 s h = grants_reader_to_open s h ∷ trace13 s h

abbrev trace15 : Sectors → Homes → List Noted
trace15 s h = reader_answers_open s h ∷ trace14 s h

abbrev trace16 : Sectors → Homes → List Noted
trace16 s h = hears_reader_open s h ∷ trace15 s h

abbrev trace17 : Sectors → Homes → List Noted
trace17 s h = reader_starts_read s h ∷ trace16 s h

abbrev trace18 : Sectors → Homes → List Noted
trace18 s h = asks_back s h ∷ trace17 s h

abbrev trace19 : Sectors → Homes → List Noted
trace19 s h = flushes_bytes s h ∷ trace18 s h

abbrev trace20 : Sectors → Homes → List Noted
trace20 s h = reader_hears s h ∷ trace19 s h

abbrev trace21 : Sectors → Homes → List Noted
trace21 s h = commits_flush s h ∷ trace20 s h

abbrev trace22 : Sectors → Homes → List Noted
trace22 s h = hears_flushed s h ∷ trace21 s h

abbrev trace23 : Sectors → Homes → List Noted
trace23 s h = reader_answers_read s h ∷ trace22 s h

abbrev trace24 : Sectors → Homes → List Noted
trace24 s h = hears_flush s h ∷ trace23 s h

abbrev trace25 : Sectors → Homes → List Noted
trace25 s h = hears_reader_read s h ∷ trace24 s h

at1 : (s : Sectors) (h : Homes) → At (setting 2 s) (trace1 s h) (known1 s h)
at1 s h = next0 s h (trace0 s h) (at0 s h)

at2 : (s : Sectors) (h : Homes) → At (setting 2 s) (trace2 s h) (known2 s h)
at2 s h = next1 s h (trace1 s h) (at1 s h)

at3 : (s : Sectors) (h : Homes) → At (setting 2 s) (trace3 s h) (known3 s h)
at3 s h = next2 s h (trace2 s h) (at2 s h)

at4 : (s : Sectors) (h : Homes) → At (setting 2 s) (trace4 s h) (known4 s h)
at4 s h = next3 s h (trace3 s h) (at3 s h)

at5 : (s : Sectors) (h : Homes) → At (setting 2 s) (trace5 s h) (known5 s h)
at5 s h = next4 s h (trace4 s h) (at4 s h)

at6 : (s : Sectors) (h : Homes) → At (setting 2 s) (trace6 s h) (known6 s h)
at6 s h = next5 s h (trace5 s h) (at5 s h)

at7 : (s : Sectors) (h : Homes) → At (setting 2 s) (trace7 s h) (known7 s h)
at7 s h = next6 s h (trace6 s h) (at6 s h)

at8 : (s : Sectors) (h : Homes) → At (setting 2 s) (trace8 s h) (known8 s h)
at8 s h = next7 s h (trace7 s h) (at7 s h)

at9 : (s : Sectors) (h : Homes) → At (setting 2 s) (trace9 s h) (known9 s h)
at9 s h = next8 s h (trace8 s h) (at8 s h)

at10 : (s : Sectors) (h : Homes) → At (setting 2 s) (trace10 s h) (known10 s h)
at10 s h = next9 s h (trace9 s h) (at9 s h)

at11 : (s : Sectors) (h : Homes) → At (setting 2 s) (trace11 s h) (known11 s h)
at11 s h = next10 s h (trace10 s h) (at10 s h)

at12 : (s : Sectors) (h : Homes) → At (setting 2 s) (trace12 s h) (known12 s h)
at12 s h = next11 s h (trace11 s h) (at11 s h)

at13 : (s : Sectors) (h : Homes) → At (setting 2 s) (trace13 s h) (known13 s h)
at13 s h = next12 s h (trace12 s h) (at12 s h)

at14 : (s : Sectors) (h : Homes) → At (setting 2 s) (trace14 s h) (known14 s h)
at14 s h = next13 s h (trace13 s h) (at13 s h)

at15 : (s : Sectors) (h : Homes) → At (setting 2 s) (trace15 s h) (known15 s h)
at15 s h = next14 s h (trace14 s h) (at14 s h)

at16 : (s : Sectors) (h : Homes) → At (setting 2 s) (trace16 s h) (known16 s h)
at16 s h = next15 s h (trace15 s h) (at15 s h)

at17 : (s : Sectors) (h : Homes) → At (setting 2 s) (trace17 s h) (known17 s h)
at17 s h = next16 s h (trace16 s h) (at16 s h)

at18 : (s : Sectors) (h : Homes) → At (setting 2 s) (trace18 s h) (known18 s h)
at18 s h = next17 s h (trace17 s h) (at17 s h)

at19 : (s : Sectors) (h : Homes) → At (setting 2 s) (trace19 s h) (known19 s h)
at19 s h = next18 s h (trace18 s h) (at18 s h)

at20 : (s : Sectors) (h : Homes) → At (setting 2 s) (trace20 s h) (known20 s h)
at20 s h = next19 s h (trace19 s h) (at19 s h)

at21 : (s : Sectors) (h : Homes) → At (setting 2 s) (trace21 s h) (known21 s h)
at21 s h = next20 s h (trace20 s h) (at20 s h)

at22 : (s : Sectors) (h : Homes) → At (setting 2 s) (trace22 s h) (known22 s h)
at22 s h = next21 s h (trace21 s h) (at21 s h)

at23 : (s : Sectors) (h : Homes) → At (setting 2 s) (trace23 s h) (known23 s h)
at23 s h = next22 s h (trace22 s h) (at22 s h)

at24 : (s : Sectors) (h : Homes) → At (setting 2 s) (trace24 s h) (known24 s h)
at24 s h = next23 s h (trace23 s h) (at23 s h)

pub whole : (s : Sectors) (h : Homes) → length (first_disk s).sectors ≡ 2596 → AreHomes (formatted 2) creating.creation (created_homes h) → AreHomes with_file flushing (flushed_homes h) → AllKeep (setting 2 s) (foreign_read s h)
whole s h count created bytes = (
  (
    (
      (
        (
          (
            (
              (
                (
                  (
                    (
                      (
                        (
                          (
                            (
                              (
                                (
                                  (
                                    (
                                      (
                                        (
                                          (
                                            (
                                              (
                                                (
                                                  record {},
                                                  keeps0 s h (trace0 s h) (at0 s h),
                                                ),
                                                keeps1 s h (trace1 s h) (at1 s h) created,
                                              ),
                                              keeps2 s h (trace2 s h) (at2 s h),
                                            ),
                                            keeps3 s h (trace3 s h) (at3 s h),
                                          ),
                                          keeps4 s h (trace4 s h) (at4 s h),
                                        ),
                                        keeps5 s h (trace5 s h) (at5 s h),
                                      ),
                                      keeps6 s h (trace6 s h) (at6 s h),
                                    ),
                                    keeps7 s h (trace7 s h) (at7 s h),
                                  ),
                                  keeps8 s h (trace8 s h) (at8 s h),
                                ),
                                keeps9 s h (trace9 s h) (at9 s h),
                              ),
                              keeps10 s h (trace10 s h) (at10 s h),
                            ),
                            keeps11 s h (trace11 s h) (at11 s h),
                          ),
                          keeps12 s h (trace12 s h) (at12 s h),
                        ),
                        keeps13 s h (trace13 s h) (at13 s h),
                      ),
                      keeps14 s h (trace14 s h) (at14 s h),
                    ),
                    keeps15 s h (trace15 s h) (at15 s h),
                  ),
                  keeps16 s h (trace16 s h) (at16 s h),
                ),
                keeps17 s h (trace17 s h) (at17 s h),
              ),
              keeps18 s h (trace18 s h) (at18 s h),
            ),
            keeps19 s h (trace19 s h) (at19 s h),
          ),
          keeps20 s h (trace20 s h) (at20 s h) bytes (long s h (trace19 s h) (others-count s count)),
        ),
        keeps21 s h (trace21 s h) (at21 s h),
      ),
      keeps22 s h (trace22 s h) (at22 s h),
    ),
    keeps23 s h (trace23 s h) (at23 s h),
  ),
  keeps24 s h (trace24 s h) (at24 s h),
)
