mod Deliveries
mod Issuing
mod Logons
mod Resends
mod Turns
