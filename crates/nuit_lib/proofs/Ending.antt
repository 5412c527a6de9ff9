-- How a call ends, from how its parts end.
use Rattle.std.proofs.Common.{◌≡◌, ℕ, suc, ◌<◌, inl, inr, List, [], length, refl, sym, ◌∙◌, ap, subst, arith, Option, Some, None, IfSome, IsSomeAnd, replicate, append-nil}
use Rattle.std.proofs.lemmas.List.{length-replicate}
use Rattle.nu_base.specs.Outside.{Rose, told_file, Adds}
use Rattle.nuit_lib.specs.declared.status.Status.{Status}
use Rattle.nuit_lib.specs.declared.status.Status.TheVariants as status
use Rattle.nuit_lib.specs.declared.words.Verb.{Verb}
use Rattle.nuit_lib.specs.declared.words.Verb.TheVariants as verb
use Rattle.nuit_lib.specs.Codes.{code_of}
use Rattle.nuit_lib.specs.Asked.{asked}
use Rattle.nuit_lib.specs.Words.{Command, BuildFile, RunFile, file_of, command_of}
use Rattle.nuit_lib.specs.Replies.{Reply, BuildReply, RunPart, Says, usage_text, too_large_text}
use Rattle.nuit_lib.specs.Ends.{Stream, Call, Stays, Got, told_of, Replied, Due, Wrote, Writes, Nothing, Part, Ends, Performs, RunDue, RunTakes, Said, VerbTakes, limit_of}

adds_nothing : (before after : Option (List ℕ)) → after ≡ before → Adds before after []
adds_nothing None after e = tt
adds_nothing (Some bytes) after e = e ∙ ap Some (sym (append-nil bytes))

pub got_nothing : (s : Stream) → Stays s → Got s []
got_nothing s h = record { held = adds_nothing s.before s.after h.held; faults = h.faults }

module _ (due : Status → List ℕ → List ℕ → Type 0) (part : List ℕ → Type 0) (out err : Stream) where
  -- a message that is due ends the call, behind the text that the output got
  pub said_behind : (text message : List ℕ) (wanted answer : Status) → (Wrote due out err wanted → Writes due part out err wanted) → Got out text → part text → due wanted text message → Said err message wanted answer → Writes due part out err answer
  said_behind text message wanted answer k got p d (inl w) =
      subst (Writes due part out err) (sym w.0) (k (record { text = text; message = message; is_due = d; got = got; told = w.1 }))
  said_behind text message wanted answer k got p d (inr (inl w)) =
      subst (Writes due part out err) (sym w.0) (record { answer = wanted; text = text; message = message; is_due = d; which = inr (got, w.1) })
  said_behind text message wanted answer k got p d (inr (inr w)) = subst (Writes due part out err) (sym w.0) (record { text = text; is_part = p; got = got; err_stays = w.1 })

  pub said_writes : (message : List ℕ) (wanted answer : Status) → (Wrote due out err wanted → Writes due part out err wanted) → Stays out → part [] → due wanted [] message → Said err message wanted answer → Writes due part out err answer
  said_writes message wanted answer k stays p d s = said_behind [] message wanted answer k (got_nothing out stays) p d s

  -- what is due for one reason is due for another
  pub writes_map : (due' : Status → List ℕ → List ℕ → Type 0) (part' : List ℕ → Type 0) → ((a : Status) (t m : List ℕ) → due a t m → due' a t m) → ((t : List ℕ) → part t → part' t) → (answer : Status) → Writes due part out err answer → Writes due' part' out err answer
  writes_map due' part' f g status.WriteFault w = record { answer = w.answer; text = w.text; message = w.message; is_due = f w.answer w.text w.message w.is_due; which = w.which }
  writes_map due' part' f g status.Memory w = record { text = w.text; is_part = g w.text w.is_part; got = w.got; err_stays = w.err_stays }
  writes_map due' part' f g a w = record { text = w.text; message = w.message; is_due = f a w.text w.message w.is_due; got = w.got; told = w.told }

-- nothing may always be written
pub nothing_part : (c : Call) (o : Option Command) → Part c o []
nothing_part c None = refl
nothing_part c (Some (BuildFile file)) = refl
nothing_part c (Some (RunFile file steps)) = inl refl

-- the input that is told, or some input
pub some_input : (o : Option (List ℕ)) → (input : List ℕ) × IfSome o (λ left. left ≡ input)
some_input None = ([], tt)
some_input (Some left) = (left, refl)

-- a reply to the command that the words have
pub replied : (c : Call) (command : Command) (file : Option (List ℕ)) (input : List ℕ) (answer : Status) (t m : List ℕ) → command_of c.words ≡ Some command → IfSome (told_file c.told (file_of command)) (λ told. told ≡ file) → IfSome c.input.before (λ left. left ≡ input) → Reply (Some command) file input answer t m → c.faults_after ≡ c.faults → c.input.faults_after ≡ c.input.faults → Replied c answer t m
replied c command file input answer t m w told given r faults heard = record {
  file = file;
  is = subst (λ o. IfSome (told_of c.told o) (λ told. told ≡ file)) (sym w) told;
  input = input;
  given = given;
  reply = subst (λ o. Reply o file input answer t m) (sym w) r;
  faults = faults;
  input_faults = heard;
}

-- words without a form
pub unknown : (c : Call) → command_of c.words ≡ None → c.faults_after ≡ c.faults → c.input.faults_after ≡ c.input.faults → Replied c status.Usage [] usage_text
unknown c w faults heard = record {
  file = None;
  is = subst (λ o. IfSome (told_of c.told o) (λ told. told ≡ None)) (sym w) tt;
  input = (some_input c.input.before).0;
  given = (some_input c.input.before).1;
  reply = subst (λ o. Reply o None (some_input c.input.before).0 status.Usage [] usage_text) (sym w) (record { silent = refl; said = refl });
  faults = faults;
  input_faults = heard;
}

-- no file of a command's name
pub absent : (c : Call) (command : Command) (m : List ℕ) → command_of c.words ≡ Some command → IfSome (told_file c.told (file_of command)) (λ told. told ≡ None) → Reply (Some command) None (some_input c.input.before).0 status.Missing [] m → c.faults_after ≡ c.faults → c.input.faults_after ≡ c.input.faults → Replied c status.Missing [] m
absent c command m w told r faults heard = replied c command None (some_input c.input.before).0 status.Missing [] m w told (some_input c.input.before).1 r faults heard

-- a file that is longer than a limit: the one that is told, or some such file
pub long_file : (limit : ℕ) (o : Option (Option (List ℕ))) → IfSome o (λ told. IsSomeAnd told (λ bytes. limit < length bytes)) → (bytes : List ℕ) × (limit < length bytes) × IfSome o (λ told. told ≡ Some bytes)
long_file limit None h = (replicate (suc limit) 0, (let l = length-replicate {A = ℕ} (suc limit) 0 in omega (arith, l)), tt)
long_file limit (Some None) h = absurd h
long_file limit (Some (Some bytes)) h = (bytes, h, refl)

pub file_asked : (v : Verb) (name : List ℕ) → file_of (asked v name) ≡ name
file_asked verb.Build name = refl
file_asked (verb.Run steps) name = refl

long_reply : (v : Verb) (name bytes input m : List ℕ) → limit_of v < length bytes → Says m [] m → m ≡ too_large_text → Reply (Some (asked v name)) (Some bytes) input status.TooLarge [] m
long_reply verb.Build name bytes input m h s e = (h, subst (λ x. Says x [] m) e s)
long_reply (verb.Run steps) name bytes input m h s e = (h, subst (λ x. Says x [] m) e s)

-- a file that is too long for its command
pub long : (c : Call) (v : Verb) (name : List ℕ) → command_of c.words ≡ Some (asked v name) → IfSome (told_file c.told name) (λ told. IsSomeAnd told (λ bytes. limit_of v < length bytes)) → c.faults_after ≡ c.faults → c.input.faults_after ≡ c.input.faults → Replied c status.TooLarge [] too_large_text
long c v name w told faults heard =
    let file = long_file (limit_of v) (told_file c.told name) told in
    replied c (asked v name) (Some file.0) (some_input c.input.before).0 status.TooLarge [] _ w
    (subst (λ n. IfSome (told_file c.told n) (λ told. told ≡ Some file.0)) (sym (file_asked v name)) file.2)
    (some_input c.input.before).1 (long_reply v name file.0 (some_input c.input.before).0 _ file.1 (record { silent = refl; said = refl }) refl) faults heard

pub other : (a b : Status) → (code_of a ≡ code_of b → ⊥) → a ≡ b → ⊥
other a b f e = f (ap code_of e)

-- how a command ended on its file ends the call
module _ (c : Call) (name bytes : List ℕ) (told : IfSome (told_file c.told name) (λ file. file ≡ Some bytes)) (faults : c.faults_after ≡ c.faults) where
  build_due : Stays c.input → command_of c.words ≡ Some (BuildFile name) → (a : Status) (t m : List ℕ) → BuildReply name bytes a t m → Due c a t m
  build_due stays w status.ReadFault t m r = absurd r
  build_due stays w a t m r = replied c (BuildFile name) (Some bytes) (some_input c.input.before).0 a t m w told (some_input c.input.before).1 r faults stays.faults

  run_due : (steps : ℕ) (left : List ℕ) → IfSome c.input.before (λ told. told ≡ left) → command_of c.words ≡ Some (RunFile name steps) → (a : Status) (t m : List ℕ) → RunDue bytes left steps c.input a t m → Due c a t m
  run_due steps left given w status.ReadFault t m b = inr (record { name = name; steps = steps; is = w; bytes = bytes; file = told; left = left; given = given; broken = b; faults = faults })
  run_due steps left given w a t m r = replied c (RunFile name steps) (Some bytes) left a t m w told given r.0 faults r.1

  run_part : (steps : ℕ) (left : List ℕ) → IfSome c.input.before (λ told. told ≡ left) → command_of c.words ≡ Some (RunFile name steps) → (t : List ℕ) → RunPart bytes left steps t → Part c (Some (RunFile name steps)) t
  run_part steps left given w t (inl e) = inl e
  run_part steps left given w t (inr f) = inr (record { bytes = bytes; is = subst (λ o. IfSome (told_of c.told o) (λ told. told ≡ Some bytes)) (sym w) told; input = left; given = given; front = f })

  pub performed_ends : (v : Verb) (answer : Status) → command_of c.words ≡ Some (asked v name) → Performs v name bytes c.input c.out c.err answer → Ends c answer
  performed_ends verb.Build answer w performs =
      writes_map (BuildReply name bytes) Nothing c.out c.err (Due c) (Part c (command_of c.words)) (build_due performs.1 w) (λ t e. subst (λ o. Part c o t) (sym w) e) answer performs.0
  performed_ends (verb.Run steps) answer w performs =
      writes_map (RunDue bytes performs.left steps c.input) (RunPart bytes performs.left steps) c.out c.err (Due c) (Part c (command_of c.words)) (run_due steps performs.left performs.given w) (λ t p. subst (λ o. Part c o t) (sym w) (run_part steps performs.left performs.given w t p)) answer performs.writes

-- a command that ended with a read fault heard one of the input
pub performed_rose : (v : Verb) (name bytes : List ℕ) (input out err : Stream) (answer : Status) → Performs v name bytes input out err answer → answer ≡ status.ReadFault → Rose input.faults input.faults_after
performed_rose v name bytes input out err answer performs e = go v (subst (Performs v name bytes input out err) e performs)
  where
    go : (v : Verb) → Performs v name bytes input out err status.ReadFault → Rose input.faults input.faults_after
    go verb.Build h = absurd h.0.is_due
    go (verb.Run steps) h = h.writes.is_due.faults.1

-- what a command on a fetched file takes of the input is what it takes on the file that is told
pub whole_takes : {A : Type 0} (o : Option Command) (files : Option (List ℕ → Option (List ℕ))) (v : Verb) (n b : List ℕ) (i j : A) (before after : Option (List ℕ))
    → o ≡ Some (asked v n) → IfSome (told_file files n) (λ file. file ≡ Some b) → VerbTakes v b i j before after
    → (name bytes : List ℕ) (steps : ℕ) (told : List ℕ → Option (List ℕ)) → o ≡ Some (RunFile name steps) → files ≡ Some told → told name ≡ Some bytes → RunTakes bytes steps i j before after
whole_takes o files verb.Build n b i j before after w h k name bytes steps told command t f = absurd (let e : Some (BuildFile n) ≡ Some (RunFile name steps) = sym w ∙ command in cc)
whole_takes o files (verb.Run s) n b i j before after w h k name bytes steps told command t f =
    let e : Some (RunFile n s) ≡ Some (RunFile name steps) = sym w ∙ command in
    let same_name : n ≡ name = cc in
    let same_steps : s ≡ steps = cc in
    let found : told n ≡ Some b = subst (λ x. IfSome (told_file x n) (λ file. file ≡ Some b)) t h in
    let both : Some b ≡ Some bytes = sym found ∙ ap told same_name ∙ f in
    let same : b ≡ bytes = cc in
    subst (λ x. RunTakes x steps i j before after) same (subst (λ x. RunTakes b x i j before after) same_steps k)
