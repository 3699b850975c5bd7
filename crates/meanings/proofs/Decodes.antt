-- Decoding what a build emits, whatever follows it, reads exactly the instruction's length and its meaning: the code is read as its row, the operand's
-- bytes as the chosen argument, and the chosen argument says what the record says.
-- Assumes nothing.
use mathlib.Core.Path.{◌≡◌, ◌∙◌, refl, sym, ap, subst}
use mathlib.Core.Bool.{Bool, true, false}
use mathlib.Core.List.{List, [], ◌∷◌, ◌++◌, append_assoc}
use mathlib.Core.Logic.{⊎_elim}
use Prim.Native.Nat.{ℕ, ◌+◌, ◌≤◌}
use native.Mathlib.Omega.{arith}
use lib.Dec.{eqb}
use lib.ListN.{take}
use lib.Seq.{length-take-le, take-append-add}
use Rattle.std.specs.Prelude.{Ok, Result, Err, IfOk}
use Rattle.ground.specs.declared.refusals.Refusal.{Refusal}
use Rattle.ground.specs.Choice.{pick}
use Rattle.ground.specs.Words.{plus}
use Rattle.values.specs.declared.pages.Page.{Page}
use Rattle.values.specs.Pages.{meets}
use Rattle.values.proofs.Reached.{meets_same}
use Rattle.rows.specs.Forms.{relative, register}
use Rattle.rows.specs.Lookup.{merged_of, coded, code_of}
use Rattle.rows.specs.Sizes.{number_size_of}
use Rattle.postbytes.specs.declared.Encoded.{Encoded}
use Rattle.postbytes.specs.Writing.{written}
use Rattle.decoder.specs.Origin.{origin}
use Rattle.decoder.specs.Meaning.{answer, joined}
use Rattle.decoder.specs.Front.{front_of}
use Rattle.decoder.proofs.Instructions.{front_read}
use Rattle.decoder.proofs.Back.{code_bytes, front_code, decode_room}
use Rattle.instruction.specs.declared.Values.{Values}
use Rattle.instruction.specs.declared.Record.{Record}
use Rattle.instruction.specs.declared.Instruction.{Instruction}
use Rattle.instruction.specs.declared.Chosen.{Chosen}
use Rattle.instruction.specs.declared.Laid.{Laid}
use Rattle.instruction.specs.declared.Built.{Built}
use Rattle.instruction.specs.Forms.{form_of}
use Rattle.instruction.specs.Choosing.{choose_of}
use Rattle.instruction.specs.Bytes.{operand_bytes, at, code_size, behind_code, laid_at, laid_of}
use Rattle.instruction.specs.Building.{accepted_of, tried_of, handing, build_of, instruction_of, fresh_of, bytes_in, told, bytes_told, size_told}
use Rattle.instruction.proofs.Padded.{Padded, empty, single, double, triple, operand_padded, Five, tried_five}
use Rattle.instruction.proofs.Rows.{has_code, short_page}
use Rattle.instruction.proofs.Fits.{Widens, Fits, Builds, build_chosen}
use Rattle.instruction.specs.Sequences.{instruction_in}
use Rattle.instruction.proofs.Results.{of_ok, handed_ok}
use Rattle.ground.proofs.Refused.{refused_number}
use Rattle.instruction.proofs.Ready.{fresh_tried}
use Rattle.meanings.specs.Means.{kind_of, operation_of, meaning_of}
use Rattle.meanings.specs.ReadBack.{read_as, read_told, ReadsBack, Decodes, Sized}
use Rattle.meanings.proofs.Operands.{argument_kind, operand_back}
use Rattle.meanings.proofs.Choosing.{choose_means}

-- ---- the bytes of an instruction are its code's and its operand's
written_first : {e : Encoded} → Padded e → (l : List ℕ) → take e.length (at e 0 ∷ at e 1 ∷ at e 2 ∷ l) ≡ written e
written_first empty l = refl
written_first (single a) l = refl
written_first (double a b) l = refl
written_first (triple a b c) l = refl

-- so many bytes of code before an operand
record Behind (e : Encoded) (laid : Laid) (code : List ℕ) (size : ℕ) : Type 0 where
  bytes : take laid.length laid.bytes ≡ code ++ written e
  total : laid.length ≡ size + e.length

behind : (page code : ℕ) {e : Encoded} → Padded e → Behind e (behind_code page code e) (code_bytes page code) (code_size page)
unfolding behind_code code_size pick
behind page code {e} p = go (eqb page 0)
  where
    go :
        (t : Bool) →
        Behind e
        (pick t (record { bytes = code ∷ at e 0 ∷ at e 1 ∷ at e 2 ∷ 0 ∷ []; length = 1 + e.length })
        (record { bytes = page ∷ code ∷ at e 0 ∷ at e 1 ∷ at e 2 ∷ []; length = 2 + e.length }))
        (pick t (code ∷ []) (page ∷ code ∷ []))
        (pick t 1 2)
    go true = record {
      bytes = take-append-add (code ∷ []) (at e 0 ∷ at e 1 ∷ at e 2 ∷ 0 ∷ []) e.length ∙ ap (λ (l : List ℕ). code ∷ l) (written_first p (0 ∷ []));
      total = refl;
    }
    go false = record {
      bytes = take-append-add (page ∷ code ∷ []) (at e 0 ∷ at e 1 ∷ at e 2 ∷ []) e.length ∙ ap (λ (l : List ℕ). page ∷ code ∷ l) (written_first p []);
      total = refl;
    }

-- with room up to 65535, decoding reads the front
there : (page : Page) (v : Values) (address : ℕ) (b : Built) → ReadsBack page v address b → Decodes page v address b
there page v address b d t h = decode_room (bytes_in b ++ t) (origin address page) h ∙ d t

-- ---- an accepted choice, under its own page
module _ (i : Instruction) (v : Values) (own : Page) (address : ℕ) (c : Chosen) (chosen : choose_of i v own address ≡ Ok c) (fits : Fits i.operand own address c) where
  -- a list of registers stands in a row of its own operation
  same_operation : c.form ≡ register → i.operand.operation ≡ c.operation
  same_operation d =
      ⊎_elim (λ (e : c.operation ≡ i.operand.operation). sym e)
      (λ (w : Widens i.operand.operation c). let f = w.formed in absurd (omega arith))
      fits.operation

  -- a short branch has no prefix
  short_code : (p k : ℕ) → code_of c.operation c.form ≡ coded p k → c.form ≡ relative → number_size_of c.operation relative ≡ 1 → code_size p ≡ 1
  unfolding code_size pick
  short_code p k e d s =
      let q : p ≡ 0x00 = short_page c.operation p k (subst (λ (f : ℕ). code_of c.operation f ≡ coded p k) d e) s in
      rw q

  accepted_decodes :
      (page : Page) → meets page own ≡ true → (t : List ℕ) →
      front_of (bytes_in (accepted_of i c address) ++ t) (origin address page) ≡ Ok (read_as v address (accepted_of i c address))
  unfolding accepted_of laid_of laid_at meaning_of operation_of joined code_size pick
  accepted_decodes page met t =
      let o = c.operation in
      let k = has_code o c.form fits.row in
      let n = code_size k.page in
      let e = operand_bytes o c.form c.argument (plus address n) in
      let laid : laid_of c address ≡ behind_code k.page k.code e = rw k.coded in
      let b = behind k.page k.code (operand_padded o c.form c.argument (plus address n)) in
      let bytes : bytes_in (accepted_of i c address) ≡ code_bytes k.page k.code ++ written e =
      ap (λ (l : Laid). take l.length l.bytes) laid ∙ b.bytes in
      let total : n + e.length ≡ (laid_of c address).length = sym (ap (λ (l : Laid). l.length) laid ∙ b.total) in
      ap (λ (l : List ℕ). front_of (l ++ t) (origin address page)) bytes
      ∙ ap (λ (l : List ℕ). front_of l (origin address page)) (append_assoc (code_bytes k.page k.code) (written e) t)
      ∙ front_code o c.form k.code (origin address page) (written e ++ t) k.page k.coded
      ∙ ap (joined n (merged_of o))
      (operand_back i.operand page address n o k.page k.code t own met c.form k.coded same_operation (short_code k.page k.code k.coded) c.argument fits.argument)
      ∙ ap (answer (n + e.length) (merged_of o)) (of_ok (λ (k : Chosen). argument_kind i.operand k.form k.argument (origin (plus address (n + e.length)) page) ≡ kind_of k.form i.operand v (plus address (n + e.length))) (choose_means i v own address (origin (plus address (n + e.length)) page)) chosen)
      ∙ ap (λ (m : ℕ). answer (n + e.length) m (kind_of c.form i.operand v (plus address (n + e.length)))) fits.named
      ∙ ap (λ (m : ℕ). answer m (operation_of (accepted_of i c address).instruction) (kind_of c.form i.operand v (plus address m))) total

-- ---- every build
module _ (i : Instruction) (v : Values) (own : Page) (address : ℕ) where
  -- what holds of every build of what was chosen, laid down
  accepted : (P : Built → Type 0) → ((b : Built) → Builds i v own address b → P b) → IfOk (tried_of i v own address) P
  accepted P h = go (tried_of i v own address) (build_chosen i v own address)
    where
      go : (t : Result Built Refusal) → IfOk t (Builds i v own address) → IfOk t P
      go (Ok b) k = h b k
      go (Err n) k = tt

  -- under a page that meets its own
  reads : (page : Page) → meets page own ≡ true → (b : Built) → Builds i v own address b → ReadsBack page v address b
  reads page met b k t =
      subst (λ (x : Built). front_of (bytes_in x ++ t) (origin address page) ≡ Ok (read_as v address x)) (sym k.built)
      (accepted_decodes i v own address k.choice k.chosen k.fits page met t)

  pub tried_decodes : (page : Page) → meets page own ≡ true → IfOk (tried_of i v own address) (ReadsBack page v address)
  tried_decodes page met = accepted (ReadsBack page v address) (reads page met)

  pub tried_there : (page : Page) → meets page own ≡ true → IfOk (tried_of i v own address) (Decodes page v address)
  tried_there page met = accepted (Decodes page v address) (λ b k. there page v address b (reads page met b k))

  -- the meaning is that of the instruction's own operand, which a build hands back as it was
  pub tried_operand : IfOk (tried_of i v own address) (λ b. b.instruction.operand ≡ i.operand)
  unfolding accepted_of
  tried_operand = accepted (λ (b : Built). b.instruction.operand ≡ i.operand) (λ b k. ap (λ (x : Built). x.instruction.operand) k.built)

  pub tried_sized : IfOk (tried_of i v own address) Sized
  tried_sized = go (tried_of i v own address) (tried_five i v own address) (tried_decodes own (meets_same own))
    where
      go : (t : Result Built Refusal) → IfOk t (λ b. Five b.bytes b.length) → IfOk t (ReadsBack own v address) → IfOk t Sized
      go (Ok b) five decodes =
          let all = five.all in
          let most = five.most in
          let w = front_read (bytes_in b ++ []) (origin address own) (read_as v address b) (decodes []) in
          record {
            bytes = length-take-le b.length b.bytes (omega arith);
            some = w.some;
            most = most;
          }
      go (Err n) five decodes = tt

  -- ---- as it is handed back
  pub built_decodes : (page : Page) → meets page own ≡ true → IfOk (build_of i v own address) (ReadsBack page v address)
  unfolding build_of
  built_decodes page met = handed_ok (ReadsBack page v address) i (tried_of i v own address) (tried_decodes page met)

  pub built_decodes_there : (page : Page) → meets page own ≡ true → IfOk (build_of i v own address) (Decodes page v address)
  unfolding build_of
  built_decodes_there page met = handed_ok (Decodes page v address) i (tried_of i v own address) (tried_there page met)

  -- and so under the page it was built under, for every page
  pub own_decodes : IfOk (build_of i v own address) (ReadsBack own v address)
  own_decodes = built_decodes own (meets_same own)

  pub built_sized : IfOk (build_of i v own address) Sized
  unfolding build_of
  built_sized = handed_ok Sized i (tried_of i v own address) tried_sized

  -- the operand is handed back as it was, beside a refusal too
  pub built_operand : (instruction_in (build_of i v own address)).operand ≡ i.operand
  unfolding build_of
  built_operand = go (tried_of i v own address) tried_operand
    where
      go : (t : Result Built Refusal) → IfOk t (λ b. b.instruction.operand ≡ i.operand) → (instruction_in (handing i t)).operand ≡ i.operand
      go (Ok b) e = e
      go (Err n) e = refl

-- ---- every fresh build
module _ (r : Record) (address : ℕ) where
  abbrev made : Instruction
  made = instruction_of r.operand (form_of r.operand r.values r.page)

  pub fresh_decodes : (page : Page) → meets page r.page ≡ true → IfOk (fresh_of r address) (ReadsBack page r.values address)
  fresh_decodes page met = rw (fresh_tried r address) (tried_decodes made r.values r.page address page met)

  pub fresh_decodes_there : (page : Page) → meets page r.page ≡ true → IfOk (fresh_of r address) (Decodes page r.values address)
  fresh_decodes_there page met = rw (fresh_tried r address) (tried_there made r.values r.page address page met)

  pub own_fresh_decodes : IfOk (fresh_of r address) (ReadsBack r.page r.values address)
  own_fresh_decodes = fresh_decodes r.page (meets_same r.page)

  pub fresh_sized : IfOk (fresh_of r address) Sized
  fresh_sized = rw (fresh_tried r address) (tried_sized made r.values r.page address)

  -- the meaning is that of the record's own operand
  pub fresh_operand : IfOk (fresh_of r address) (λ b. b.instruction.operand ≡ r.operand)
  unfolding instruction_of
  fresh_operand = rw (fresh_tried r address) (tried_operand made r.values r.page address)

-- ---- the same of a fresh build as it is told, accepted or not
module _ (r : Record) (address : ℕ) where
  pub told_decodes :
      (page : Page) → meets page r.page ≡ true → told (fresh_of r address) ≡ 0 → (t : List ℕ) →
      front_of (bytes_told (fresh_of r address) ++ t) (origin address page) ≡ Ok (read_told r.values address (fresh_of r address))
  told_decodes page met = go (fresh_of r address) (fresh_decodes r address page met)
    where
      go :
          (b : Result Built Refusal) → IfOk b (ReadsBack page r.values address) → told b ≡ 0 → (t : List ℕ) →
          front_of (bytes_told b ++ t) (origin address page) ≡ Ok (read_told r.values address b)
      go (Ok b) d z = d
      go (Err n) d z = absurd (refused_number n z)

  pub own_told_decodes :
      told (fresh_of r address) ≡ 0 → (t : List ℕ) →
      front_of (bytes_told (fresh_of r address) ++ t) (origin address r.page) ≡ Ok (read_told r.values address (fresh_of r address))
  own_told_decodes = told_decodes r.page (meets_same r.page)

  pub told_some : told (fresh_of r address) ≡ 0 → 1 ≤ size_told (fresh_of r address)
  told_some = go (fresh_of r address) (fresh_sized r address)
    where
      go : (b : Result Built Refusal) → IfOk b Sized → told b ≡ 0 → 1 ≤ size_told b
      go (Ok b) s z = s.some
      go (Err n) s z = absurd (refused_number n z)
