-- An HMAC in the caller's memory, over each of four hash functions: under a key that is one block, a text.
use Rattle.std.specs.Prelude.{ℕ, List, []}
use Rattle.words.specs.Blake2.{blake2b, blake2s}
use Rattle.blake2.specs.Blake2.{unsalted}
use Rattle.blake2.specs.inside.States.{StateHolds2b, StateHolds2s}
use Rattle.states.specs.inside.States.{StateHolds256, StateHolds512}
use Rattle.states.specs.Macs.{IsMac}
use Rattle.hash_c.specs.declared.hmac_stream.HmacBlake2bState.{HmacBlake2bState}
use Rattle.hash_c.specs.declared.hmac_stream.HmacBlake2sState.{HmacBlake2sState}
use Rattle.hash_c.specs.declared.hmac_stream.HmacSha256State.{HmacSha256State}
use Rattle.hash_c.specs.declared.hmac_stream.HmacSha512State.{HmacSha512State}

abbrev pub IsMac256 : HmacSha256State → List ℕ → List ℕ → Type 0
IsMac256 s key text = IsMac (λ h m. StateHolds256 h m) 64 key s.inner s.outer text

abbrev pub IsMac512 : HmacSha512State → List ℕ → List ℕ → Type 0
IsMac512 s key text = IsMac (λ h m. StateHolds512 h m) 128 key s.inner s.outer text

abbrev pub IsMac2b : HmacBlake2bState → List ℕ → List ℕ → Type 0
IsMac2b s key text = IsMac (λ h m. StateHolds2b h (unsalted blake2b 64 []) m) 128 key s.inner s.outer text

abbrev pub IsMac2s : HmacBlake2sState → List ℕ → List ℕ → Type 0
IsMac2s s key text = IsMac (λ h m. StateHolds2s h (unsalted blake2s 32 []) m) 64 key s.inner s.outer text
