-- How a run begins behind a mount, goes on from the lines before the next one, and ends there.
use Rattle.std.proofs.Common.{◌≡◌, ◌⊎◌, inl, inr, ⊎_elim, ℕ, ◌<◌, ◌≤◌, true, List, [], ◌∷◌, ◌++◌, length, take, Option, Some, None, IfSome, refl, sym, ◌∙◌, ap, arith, append_assoc, append-nil, length-append}
use Rattle.std.specs.List.{list_all}
use Rattle.std.proofs.lemmas.Bool.{le-leb}
use Rattle.std.proofs.lemmas.Grind.{flat_map-append}
use Rattle.std.proofs.lemmas.List.Folds.{list_all-append}
use Rattle.std.proofs.lemmas.List.Sums.{fold-append}
use Rattle.std.proofs.KnownBytes.{Appends-nil, Appends-trans, Consumes-nil, Consumes-trans}
use Rattle.std.specs.Io.KnownBytes.{Appends}
use Rattle.fh_base.specs.declared.ends.PlainEnd.TheVariants.{Finished, WriteFault}
use Rattle.fh_base.specs.declared.source.Source.{Ghosts as SourceGhosts}
use Rattle.fh_base.specs.declared.sink.Sink.{Ghosts as SinkGhosts}
use Rattle.fh_disk.specs.declared.disk.Disk.{Ghosts}
use Rattle.fh_disk.specs.Disk.{Each, StaysTold}
use Rattle.fh_hub.specs.Hub.{LeavesSince, StandsForHistory}
use Rattle.fh_hub.specs.Replay.{Entry, replay}
use Rattle.fh_hub.specs.State.{IsFaithful, world_of}
use Rattle.fh_hub.specs.World.{World}
use Rattle.fh_script.specs.declared.answerer.Answerer.{Answerer}
use Rattle.fh_script.specs.declared.faults.AnswerFault.{AnswerFault}
use Rattle.fh_script.specs.declared.faults.AnswerFault.TheVariants as answers
use Rattle.fh_script.specs.declared.faults.LineFault.{LineFault}
use Rattle.fh_script.specs.declared.faults.LineFault.TheVariants.{ReadFault, TooLong, NoMemory}
use Rattle.fh_script.specs.Answerer.{HasDone, HasNoAnswer, HoldsIn, StandsEither, StaysToldIn, done_in}
use Rattle.fh_script.specs.Ends.{end_of_answer, end_of_line}
use Rattle.fh_script.specs.Lines.{FindsEnd, FindsLine, HasLineReason, IsFirstLine, Took, line_feeds, line_length}
use Rattle.fh_script.specs.Machine.{Done, State, after_line, opening_in, printed, run}
use Rattle.fh_script.specs.Outside.{Counts, Imaging, Outside, crash_of, outside_of}
use Rattle.fh_script.specs.Running.{EndsWith, Running, RunsOn, outside_in}
use Rattle.fh_script.specs.Script.{HasPlainReason, Ran, Reads, StandsForPart, is_short_line, joined, with_line}
use Rattle.fh_script.proofs.Crashes.{more_images, mounted_images, stands}
use Rattle.fh_script.proofs.LineReading.{line_feeds-append}

short-push : (done : List (List ℕ)) (line : List ℕ) → list_all is_short_line done ≡ true → line_length line ≤ 140000
    → list_all is_short_line (done ++ line ∷ []) ≡ true
short-push done line short fits =
    rw (list_all-append is_short_line done (line ∷ []), short, le-leb (line_length line) 140000 fits) refl

reads-push : (was mid now : Option (List ℕ)) (done : List (List ℕ)) (line : List ℕ) → Reads was mid done
    → IsFirstLine mid now line → Reads was now (done ++ line ∷ [])
reads-push was mid now done line one two = grind (arith, append_assoc)

reads-nothing : (left : Option (List ℕ)) → Reads left left []
reads-nothing left = grind arith

joined-push : (done : List (List ℕ)) (line : List ℕ) → joined (done ++ line ∷ []) ≡ joined done ++ line
joined-push done line = simp (flat_map-append, append-nil)

run-push : (opening : List Entry) (done : List (List ℕ)) (line : List ℕ)
    → run opening (done ++ line ∷ []) ≡ after_line (run opening done) line
run-push opening done line = fold-append after_line (opening_in (replay opening)) done (line ∷ [])

feeds-push : (done : List (List ℕ)) (line : List ℕ) → line_feeds (joined done) ≡ length done → line_feeds line ≡ 1
    → line_feeds (joined (done ++ line ∷ [])) ≡ length (done ++ line ∷ [])
feeds-push done line feeds one = rw (joined-push done line)
    (omega (arith, line_feeds-append (joined done) line, feeds, one, length-append done (line ∷ [])))

-- told bytes that stand for one of two histories
one_of_two : (told : Option (List ℕ)) (images A B : List ℕ → Type 0)
    → IfSome told (λ file. Each file images (λ c. A c ⊎ B c)) → IfSome told A ⊎ IfSome told B
one_of_two told images A B either = grind arith

module _ {was now : Outside} {leaves : Imaging} {world : World} {moment : ℕ} {history : List Entry}
    (it : Running was now leaves world moment history) (left : Option (List ℕ)) (reads : ℕ) where
  abbrev Now : Outside
  Now = record now { left = left; read_faults = reads }

  -- no line stands behind those that are answered
  ran : Took now.left left → Ran was Now leaves None None
  ran took = record {
    left = now.left;
    lines = it.lines;
    took = took;
    only = tt;
    stands = rw (it.comes, ← it.longer) it.stands;
    images = rw it.comes it.images;
  }

  -- nothing was left
  pub finished : FindsEnd now.left left → HasPlainReason was Now leaves Finished
  unfolding ran
  finished found =
      (ran (record { taken = []; consumed = found.consumed; few = omega arith }), (found.was_ended, found.ended))

  -- the next line wasn't read
  pub stops : (fault : LineFault) → HasLineReason now.left left fault
      → line_feeds (joined it.lines.done) ≡ length it.lines.done → HasPlainReason was Now leaves (end_of_line fault)
  unfolding ran
  stops ReadFault part feeds = (
    ran part.took,
    omega (arith, line_feeds-append (joined it.lines.done) part.took.taken, feeds, part.part),
  )
  stops TooLong long feeds =
      (ran (record { taken = long.taken; consumed = long.consumed; few = omega (arith, long.long) }), long.starts)
  stops NoMemory took feeds = inl (ran took)

-- A line was read, and perhaps done.
module _ {A B D : Type 0} {J : Ghosts D} {S : SourceGhosts A} {O : SinkGhosts B} {was : Outside} {first : D}
    {source : A} {sink : B} {old : Answerer D J} (it : RunsOn S O was first source sink old) (next : A)
    (new : Answerer D J) (line : List ℕ) (found : FindsLine (S.left source) (S.left next) line)
    (moves : LeavesSince old.hub new.hub (StandsEither old.hub.state.history (done_in old line).entries)) where
  abbrev now_disk : D
  now_disk = new.hub.journal.disk.now

  abbrev opening : List Entry
  opening = it.run.lines.opening

  abbrev does : Done
  does = done_in old line

  -- the run as it stands behind the line, in front of its answer
  abbrev RanLine : B → Option (List ℕ) → Type 0
  RanLine now_sink =
      Ran was (record (outside_in S O next now_sink new) { written = O.written sink }) (crash_of J first now_disk)
      (Some line)

  after : run opening (it.run.lines.done ++ line ∷ []) ≡ record {
    world = does.world;
    now = does.now;
    entries = it.run.entries ++ does.entries;
    written = it.run.texts ++ printed does.text;
  }
  after = run-push opening it.run.lines.done line ∙ ap (λ (s : State). after_line s line) it.run.comes

  grown : old.hub.state.history ++ does.entries ≡ opening ++ (it.run.entries ++ does.entries)
  grown = ap (λ (h : List Entry). h ++ does.entries) it.run.longer ∙ append_assoc opening it.run.entries does.entries

  images : crash_of J first now_disk (StandsForPart opening (it.run.entries ++ does.entries))
  images =
      more_images J first old.hub.journal.disk.now now_disk opening it.run.entries does.entries it.told it.run.images
      (rw it.run.longer at moves)

  took_line : Took (S.left source) (S.left next)
  took_line = record { taken = line; consumed = found.consumed; few = found.stored }

  ran_line : (now_sink : B) (did : Option (List ℕ))
      → IfSome (J.told now_disk) (StandsForHistory (opening ++ (run opening (with_line it.run.lines.done did)).entries))
      → RanLine now_sink did
  unfolding took_line
  ran_line now_sink did stands = record {
    left = S.left source;
    lines = it.run.lines;
    took = took_line;
    only = (refl, found.first);
    stands = stands;
    images = rw after images;
  }

  made_line : (now_sink : B) → IfSome (J.told now_disk) (StandsForHistory (old.hub.state.history ++ does.entries))
      → RanLine now_sink (Some line)
  made_line now_sink stands = ran_line now_sink (Some line) (rw (after, ← grown) stands)

  -- the line has no answer
  pub unanswered : (fault : AnswerFault) → HasNoAnswer old new does fault
      → EndsWith S O was first next sink new (end_of_answer fault)
  unanswered answers.DiskFault doubt = (
    line,
    ⊎_elim (λ before. inl (ran_line sink None (rw (it.run.comes, ← it.run.longer) before)))
        (λ made. inr (made_line sink made))
        (one_of_two (J.told now_disk) (J.may_leave now_disk) (StandsForHistory old.hub.state.history)
        (StandsForHistory (old.hub.state.history ++ does.entries)) doubt.stands),
  )
  unanswered answers.NoMemory lacks =
      ⊎_elim (λ same. rw same.disk (inl (ran it.run (S.left next) (S.read_faults next) took_line)))
      (λ done. inr (line, made_line sink (rw done.history at (stands done.holds)))) lacks.either

  module _ (text : List ℕ) (done : HasDone old new does text) (now_sink : B) where
    -- the answer was written in part
    pub cut_off : (size : ℕ) → size < length text → Appends (O.written sink) (O.written now_sink) (take size text)
        → EndsWith S O was first next now_sink new WriteFault
    unfolding made_line ran_line took_line
    cut_off size part cut = record {
      before = O.written sink;
      line = line;
      ran = made_line now_sink (rw done.history at (stands done.holds));
      size = size;
      part = rw (it.run.comes, ← done.answer) part;
      cut = rw (it.run.comes, ← done.answer) cut;
    }

    pub goes_on : Appends (O.written sink) (O.written now_sink) text
        → Running was (outside_in S O next now_sink new) (crash_of J first now_disk)
        (world_of new.hub.state) new.now new.hub.state.history
    goes_on writes = record {
      lines = record {
        opening = opening;
        legal = it.run.lines.legal;
        stood = it.run.lines.stood;
        done = it.run.lines.done ++ line ∷ [];
        read = reads-push was.left (S.left source) (S.left next) it.run.lines.done line it.run.lines.read found.first;
        consumed =
            rw (joined-push it.run.lines.done line)
            (Consumes-trans was.left (S.left source) (S.left next) _ line it.run.lines.consumed found.consumed);
        short = short-push it.run.lines.done line it.run.lines.short found.short;
        texts =
            rw (after, ← done.answer)
            (Appends-trans was.written (O.written sink) (O.written now_sink) _ text
            (rw it.run.comes at it.run.lines.texts) writes);
      };
      entries = it.run.entries ++ does.entries;
      texts = it.run.texts ++ printed does.text;
      comes = rw (done.world, done.moment) after;
      longer = done.history ∙ grown;
      stands = stands done.holds;
      images = images;
    }

    pub next_line : Appends (O.written sink) (O.written now_sink) text → line_feeds line ≡ 1 → StaysToldIn old new
        → RunsOn S O was first next now_sink new
    unfolding goes_on
    next_line writes one stays = record {
      run = goes_on writes;
      feeds = feeds-push it.run.lines.done line it.feeds one;
      told = grind arith;
    }

-- counts behind a part in which nothing failed
pub counts_on : {was mid now : Outside} {code : ℕ} → Counts was mid 0 → Counts mid now code → Counts was now code
counts_on one two = record {
  reading = rw one.reading at two.reading;
  disk = rw one.disk at two.disk;
  writing = rw one.writing at two.writing;
}

-- a run begins behind a mount
pub begins : {A B D : Type 0} {J : Ghosts D} (S : SourceGhosts A) (O : SinkGhosts B) (source : A) (sink : B) (first : D)
    (answerer : Answerer D J) → answerer.now ≡ 0 → HoldsIn answerer.hub → IsFaithful answerer.hub.state
    → IfSome (J.told first) (StandsForHistory answerer.hub.state.history)
    → StaysTold (J.told first) (J.told answerer.hub.journal.disk.now)
    → crash_of J first answerer.hub.journal.disk.now (StandsForHistory answerer.hub.state.history)
    → RunsOn S O (outside_of S O J source sink first) first source sink answerer
begins {J = J} S O source sink first answerer at_once holds faithful stood told leaves = record {
  run = record {
    lines = record {
      opening = answerer.hub.state.history;
      legal = faithful.legal;
      stood = stood;
      done = [];
      read = reads-nothing (S.left source);
      consumed = Consumes-nil (S.left source);
      short = refl;
      texts = Appends-nil (O.written sink);
    };
    entries = [];
    texts = [];
    comes = rw (at_once, faithful.world) refl;
    longer = sym (append-nil answerer.hub.state.history);
    stands = stands holds;
    images = mounted_images J first answerer.hub.journal.disk.now answerer.hub.state.history leaves;
  };
  feeds = refl;
  told = told;
}
