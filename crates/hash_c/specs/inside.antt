-- What only the code needs: the structs that cross to C, and the statuses of refused pieces.
pub mod Macs
pub mod Streams
