-- The table, computed; the cases that leave a number open; the limit of the wind; the shares off the square and the lift rotors, computed.
pub mod Computed
pub mod Wide
pub mod Wind
pub mod Shares
pub mod Lift
